-- One step of the search: at a node, and at the middle of a range of entries, by where x stands there; and the keys that it meets.
use mathlib.Core.Path.{◌≡◌, refl, ap}
use mathlib.Core.List.{List, [], ◌∷◌, ◌++◌}
use mathlib.Core.Option.{none}
use Prim.Native.Nat.{ℕ, suc, ◌-◌, ◌*◌, ◌/◌, ◌<◌, Ordering}
use lib.ListN.{length, take, drop}
use Rattle.octets.specs.Order.{Octets}
use Rattle.attester.specs.Entry.{entries}
use Rattle.attester.specs.Tree.{Tree, leaf, node, tree}
use Rattle.attester.specs.Label.{label}
use Rattle.attester.specs.Path.{Path, foot, step, keys}
use Rattle.attester.specs.Verdict.{side}
use Rattle.attester.specs.Search.{turn, onward, search}
use Rattle.attester.proofs.EntryLaws.{entries_length}
use Rattle.attester.proofs.TreeLaws.{tree_none, tree_node, tree_of_entries}

-- there is a node
abbrev pub Grown : Tree → Type 0
Grown leaf = ⊥
Grown (node l e r) = Unit {0}

pub tree_grown : (es : List Octets) → 0 < length es → Grown (tree es)
tree_grown es h = rw (tree_node es h) tt

onward_grown : (t : Tree) (p q : Path) → Grown t → onward t p q ≡ p
onward_grown leaf p q h = absurd h
onward_grown (node l e r) p q h = refl

module _ (H : Octets → Octets) (x : Octets) where
  pub search_hit : (l : Tree) (e : Octets) (r : Tree) → side x e ≡ Ordering.eq → search H x (node l e r) ≡ foot e (label H l) (label H r)
  unfolding search
  search_hit l e r s = rw s

  pub search_end_left : (e : Octets) (r : Tree) → side x e ≡ Ordering.lt → search H x (node leaf e r) ≡ foot e none (label H r)
  unfolding search label
  search_end_left e r s = rw s

  pub search_end_right : (l : Tree) (e : Octets) → side x e ≡ Ordering.gt → search H x (node l e leaf) ≡ foot e (label H l) none
  unfolding search label
  search_end_right l e s = rw s

  pub search_left : (l : Tree) (e : Octets) (r : Tree) → side x e ≡ Ordering.lt → Grown l
      → search H x (node l e r) ≡ step e (label H r) (search H x l)
  unfolding search
  search_left l e r s g = rw s (onward_grown l _ _ g)

  pub search_right : (l : Tree) (e : Octets) (r : Tree) → side x e ≡ Ordering.gt → Grown r
      → search H x (node l e r) ≡ step e (label H l) (search H x r)
  unfolding search
  search_right l e r s g = rw s (onward_grown r _ _ g)

-- the tree of the n entries of s, parted at the middle one
module _ (H : Octets → Octets) (x : Octets) (w n : ℕ) (s : Octets) (some_entry : 0 < n) where
  abbrev pub before : Tree
  before = tree (entries w (n / 2) s)

  abbrev pub middle : Octets
  middle = take w (drop (n / 2 * w) s)

  abbrev pub behind : Tree
  behind = tree (entries w (n - suc (n / 2)) (drop (suc (n / 2) * w) s))

  pub search_entries_hit : side x middle ≡ Ordering.eq → search H x (tree (entries w n s)) ≡ foot middle (label H before) (label H behind)
  search_entries_hit c = rw (tree_of_entries w n s some_entry) (search_hit H x before middle behind c)

  pub search_entries_end_left : side x middle ≡ Ordering.lt → n / 2 ≡ 0
      → search H x (tree (entries w n s)) ≡ foot middle none (label H behind)
  unfolding entries
  search_entries_end_left c z = rw (tree_of_entries w n s some_entry, z, tree_none) (search_end_left H x (take w (drop (0 * w) s)) _ (rw z at c))

  pub search_entries_end_right : side x middle ≡ Ordering.gt → n - suc (n / 2) ≡ 0
      → search H x (tree (entries w n s)) ≡ foot middle (label H before) none
  unfolding entries
  search_entries_end_right c z = rw (tree_of_entries w n s some_entry, z, tree_none) (search_end_right H x before middle c)

  pub search_entries_left : side x middle ≡ Ordering.lt → 0 < n / 2
      → search H x (tree (entries w n s)) ≡ step middle (label H behind) (search H x before)
  search_entries_left c g =
      rw (tree_of_entries w n s some_entry)
      (search_left H x before middle behind c (tree_grown (entries w (n / 2) s) (rw (entries_length w (n / 2) s) g)))

  pub search_entries_right : side x middle ≡ Ordering.gt → 0 < n - suc (n / 2)
      → search H x (tree (entries w n s)) ≡ step middle (label H before) (search H x behind)
  search_entries_right c g =
      rw (tree_of_entries w n s some_entry)
      (search_right H x before middle behind c
      (tree_grown (entries w (n - suc (n / 2)) (drop (suc (n / 2) * w) s)) (rw (entries_length w (n - suc (n / 2)) (drop (suc (n / 2) * w) s)) g)))

-- the keys that the search meets are the same whatever the labels
pub search_keys : (H G : Octets → Octets) (x : Octets) (t : Tree) → keys (search H x t) ≡ keys (search G x t)
unfolding search keys
search_keys H G x leaf = refl
search_keys H G x (node l e r) = go (side x e) l r (search_keys H G x l) (search_keys H G x r)
  where
    go : (o : Ordering) (l r : Tree) → keys (search H x l) ≡ keys (search G x l) → keys (search H x r) ≡ keys (search G x r)
        → keys (turn o (onward l (step e (label H r) (search H x l)) (foot e (label H l) (label H r))) (foot e (label H l) (label H r))
        (onward r (step e (label H l) (search H x r)) (foot e (label H l) (label H r))))
        ≡ keys (turn o (onward l (step e (label G r) (search G x l)) (foot e (label G l) (label G r))) (foot e (label G l) (label G r))
        (onward r (step e (label G l) (search G x r)) (foot e (label G l) (label G r))))
    go Ordering.lt leaf r a b = refl
    go Ordering.lt (node _ _ _) r a b = ap (λ ks. ks ++ (e ∷ [])) a
    go Ordering.eq l r a b = refl
    go Ordering.gt l leaf a b = refl
    go Ordering.gt l (node _ _ _) a b = ap (λ ks. ks ++ (e ∷ [])) b
