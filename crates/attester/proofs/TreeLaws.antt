-- The tree's own equations, free of the bound in its definition (any bound that is large enough gives the same tree),
-- and that its entries from left to right are the list.
use mathlib.Core.Path.{◌≡◌, refl}
use mathlib.Core.List.{List, [], ◌∷◌, ◌++◌}
use Prim.Native.Nat.{ℕ, zero, suc, ◌-◌, ◌*◌, ◌/◌, ◌≤◌, ◌<◌}
use native.Mathlib.Nat.{not-suc-le-zero, le_refl}
use native.Mathlib.Omega.{arith}
use lib.ListN.{length, take, drop, get_or, length-take, length-drop}
use lib.Seq.{split_at}
use Rattle.octets.specs.Order.{Octets}
use Rattle.attester.specs.Entry.{entries}
use Rattle.attester.specs.Tree.{Tree, leaf, node, tree_within, tree}
use Rattle.attester.proofs.EntryLaws.{entries_length, entries_take, entries_drop, entries_at}

-- the entries from left to right
unfoldable pub inorder : Tree → List Octets
inorder leaf = []
inorder (node l e r) = inorder l ++ e ∷ inorder r

within_enough : (d d' : ℕ) (es : List Octets) → length es ≤ d → length es ≤ d' → tree_within d es ≡ tree_within d' es
unfolding tree_within
within_enough zero zero es p q = refl
within_enough zero (suc d') [] p q = refl
within_enough zero (suc d') (e ∷ es) p q = absurd (not-suc-le-zero p)
within_enough (suc d) zero [] p q = refl
within_enough (suc d) zero (e ∷ es) p q = absurd (not-suc-le-zero q)
within_enough (suc d) (suc d') [] p q = refl
within_enough (suc d) (suc d') (e ∷ es) p q =
    let l = within_enough d d' (take (length (e ∷ es) / 2) (e ∷ es)) (simp length-take (omega arith)) (simp length-take (omega arith)) in
    let r = within_enough d d' (drop (suc (length (e ∷ es) / 2)) (e ∷ es)) (simp length-drop (omega arith)) (simp length-drop (omega arith)) in
    cc

pub tree_none : tree [] ≡ leaf
unfolding tree
tree_none = refl

pub tree_node : (es : List Octets) → 0 < length es
    → tree es ≡ node (tree (take (length es / 2) es)) (get_or es (length es / 2) []) (tree (drop (suc (length es / 2)) es))
unfolding tree
tree_node [] h = absurd (not-suc-le-zero h)
tree_node (e ∷ es) h =
    let before : List Octets = take (length (e ∷ es) / 2) (e ∷ es) in
    let after : List Octets = drop (suc (length (e ∷ es) / 2)) (e ∷ es) in
    let l = within_enough (length es) (length before) before (simp length-take (omega arith)) (le_refl _) in
    let r = within_enough (length es) (length after) after (simp length-drop (omega arith)) (le_refl _) in
    cc

within_inorder : (d : ℕ) (es : List Octets) → length es ≤ d → inorder (tree_within d es) ≡ es
unfolding tree_within inorder
within_inorder zero [] p = refl
within_inorder zero (e ∷ es) p = absurd (not-suc-le-zero p)
within_inorder (suc d) [] p = refl
within_inorder (suc d) (e ∷ es) p =
    let l = within_inorder d (take (length (e ∷ es) / 2) (e ∷ es)) (simp length-take (omega arith)) in
    let r = within_inorder d (drop (suc (length (e ∷ es) / 2)) (e ∷ es)) (simp length-drop (omega arith)) in
    let s = split_at (e ∷ es) (length (e ∷ es) / 2) [] (omega arith) in
    cc

pub inorder_of_tree : (es : List Octets) → inorder (tree es) ≡ es
unfolding tree
inorder_of_tree es = within_inorder (length es) es (le_refl _)

-- the tree of n entries of w octets, by their places in the octets
pub tree_of_entries : (w n : ℕ) (s : Octets) → 0 < n
    → tree (entries w n s)
    ≡ node (tree (entries w (n / 2) s)) (take w (drop (n / 2 * w) s)) (tree (entries w (n - suc (n / 2)) (drop (suc (n / 2) * w) s)))
tree_of_entries w n s h =
    rw (
      tree_node (entries w n s) (rw (entries_length w n s) h),
      entries_length w n s,
      entries_take w (n / 2) n s (omega arith),
      entries_drop w (suc (n / 2)) n s (omega arith),
      entries_at w (n / 2) n s (omega arith),
    )
