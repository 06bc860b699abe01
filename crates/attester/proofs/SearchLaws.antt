-- The search, seen by its steps: `Found` splits each node once, and then every property of a path that was found is five
-- short clauses.
use mathlib.Core.Path.{◌≡◌, refl, ap, ◌∙◌}
use mathlib.Core.Bool.{false, ◌||◌, or-false, or-true, or_assoc}
use mathlib.Core.List.{List, [], ◌∷◌, ◌++◌}
use mathlib.Core.Option.{none, some}
use Prim.Native.Nat.{ℕ, ◌<◌, Ordering}
use native.Mathlib.Omega.{arith}
use lib.ListN.{length}
use Rattle.octets.specs.Order.{Octets, order, same}
use Rattle.octets.proofs.OrderLaws.{order_flip, order_trans}
use Rattle.attester.specs.Entry.{key}
use Rattle.attester.specs.Record.{Child}
use Rattle.attester.specs.Tree.{Tree, leaf, node}
use Rattle.attester.specs.Label.{label}
use Rattle.attester.specs.Depth.{depth}
use Rattle.attester.specs.Listing.{Below, Each, Ascending}
use Rattle.attester.specs.Path.{Path, foot, step, top, foot_entry, foot_left, foot_right, height}
use Rattle.attester.specs.Verdict.{side, child_there, hidden, fault, join, root_record}
use Rattle.attester.specs.Search.{turn, onward, search, listed}
use Rattle.attester.proofs.Sizes.{Labelled, Throughout, Sized}
use Rattle.attester.proofs.TreeLaws.{inorder}
use Rattle.attester.proofs.LabelLaws.{label_labelled}
use Rattle.attester.proofs.ListingLaws.{each_map, each_left, each_right, ascending_parted}
use Rattle.attester.proofs.SearchStepLaws.{Grown, search_hit, search_end_left, search_end_right, search_left, search_right}
use Rattle.attester.proofs.VerdictLaws.{side_same_lt, side_same_eq, side_same_gt, fault_none}

-- the search for x in the tree ends with the path: at x's node; at a node with no subtree where x would be; or further down
pub data Found (H : Octets → Octets) (x : Octets) : Tree → Path → Type 0 where
  hit : {l r : Tree} {e : Octets} → side x e ≡ Ordering.eq → Found H x (node l e r) (foot e (label H l) (label H r))
  end_left : {r : Tree} {e : Octets} → side x e ≡ Ordering.lt → Found H x (node leaf e r) (foot e none (label H r))
  end_right : {l : Tree} {e : Octets} → side x e ≡ Ordering.gt → Found H x (node l e leaf) (foot e (label H l) none)
  go_left : {l r : Tree} {e : Octets} {p : Path} → side x e ≡ Ordering.lt → Found H x l p → Found H x (node l e r) (step e (label H r) p)
  go_right : {l r : Tree} {e : Octets} {p : Path} → side x e ≡ Ordering.gt → Found H x r p → Found H x (node l e r) (step e (label H l) p)

module _ (H : Octets → Octets) (x : Octets) where
  pub search_found : (t : Tree) → Grown t → Found H x t (search H x t)
  unfolding search label
  search_found leaf h = absurd h
  search_found (node l e r) h = go (side x e) refl l r (search_found l) (search_found r)
    where
      go : (o : Ordering) → side x e ≡ o → (l r : Tree) → (Grown l → Found H x l (search H x l)) → (Grown r → Found H x r (search H x r))
          → Found H x (node l e r) (turn o
          (onward l (step e (label H r) (search H x l)) (foot e (label H l) (label H r)))
          (foot e (label H l) (label H r))
          (onward r (step e (label H l) (search H x r)) (foot e (label H l) (label H r))))
      go Ordering.lt s leaf r a b = end_left s
      go Ordering.lt s (node l₁ e₁ r₁) r a b = go_left s (a tt)
      go Ordering.eq s l r a b = hit s
      go Ordering.gt s l leaf a b = end_right s
      go Ordering.gt s l (node l₁ e₁ r₁) a b = go_right s (b tt)

  pub found_grown : {t : Tree} {p : Path} → Found H x t p → Grown t
  found_grown (hit s) = tt
  found_grown (end_left s) = tt
  found_grown (end_right s) = tt
  found_grown (go_left s f) = tt
  found_grown (go_right s f) = tt

  -- a search ends in one way
  pub found_search : {t : Tree} {p : Path} → Found H x t p → search H x t ≡ p
  found_search (hit {l} {r} {e} s) = search_hit H x l e r s
  found_search (end_left {r} {e} s) = search_end_left H x e r s
  found_search (end_right {l} {e} s) = search_end_right H x l e s
  found_search (go_left {l} {r} {e} s f) = search_left H x l e r s (found_grown f) ∙ ap (step e (label H r)) (found_search f)
  found_search (go_right {l} {r} {e} s f) = search_right H x l e r s (found_grown f) ∙ ap (step e (label H l)) (found_search f)

  -- step 3
  pub found_open : {t : Tree} {p : Path} → Found H x t p → hidden x p ≡ false
  unfolding hidden child_there foot_entry foot_left foot_right
  found_open (hit s) = rw s
  found_open (end_left s) = rw s
  found_open (end_right s) = rw s
  found_open (go_left s f) = found_open f
  found_open (go_right s f) = found_open f

  -- step 5: the path hashes to the tree's label
  pub found_label : {t : Tree} {p : Path} → Found H x t p → label H t ≡ some (H (root_record H x p))
  unfolding label root_record join
  found_label (hit s) = refl
  found_label (end_left s) = refl
  found_label (end_right s) = refl
  found_label (go_left s f) = rw (s, found_label f)
  found_label (go_right s f) = rw (s, found_label f)

  -- K is at most the tree's depth
  pub found_low : {t : Tree} {p : Path} → Found H x t p → height p < depth t
  unfolding height depth
  found_low (hit s) = omega arith
  found_low (end_left s) = omega arith
  found_low (end_right s) = omega arith
  found_low (go_left s f) = omega (arith, found_low f)
  found_low (go_right s f) = omega (arith, found_low f)

  -- what holds of each of the tree's entries holds of the path's first
  pub found_top : {t : Tree} {p : Path} (P : Octets → Type 0) → Found H x t p → Each P (inorder t) → P (top p)
  unfolding top inorder
  found_top P (hit {l} {r} {e} s) h = (each_right P (inorder l) (e ∷ inorder r) h).0
  found_top P (end_left s) h = h.0
  found_top P (end_right {l} {e} s) h = (each_right P (inorder l) (e ∷ []) h).0
  found_top P (go_left {l} {r} {e} s f) h = (each_right P (inorder l) (e ∷ inorder r) h).0
  found_top P (go_right {l} {r} {e} s f) h = (each_right P (inorder l) (e ∷ inorder r) h).0

-- Step 4

below_same : (a b : Octets) → order a b ≡ Ordering.lt → same a b ≡ false
unfolding same
below_same a b e = rw e

above_same : (a b : Octets) → order b a ≡ Ordering.lt → same a b ≡ false
unfolding same
above_same a b e = rw (order_flip b a, e)

pub found_faultless : (H : Octets → Octets) (x : Octets) {t : Tree} {p : Path} → Found H x t p → Ascending (inorder t) → fault x p ≡ none
unfolding fault inorder
found_faultless H x (hit s) h = refl
found_faultless H x (end_left s) h = refl
found_faultless H x (end_right s) h = refl
found_faultless H x (go_left {l} {r} {e} {p} s f) h =
    let q = ascending_parted (inorder l) e (inorder r) h in
    fault_none x e (label H r) p (found_faultless H x f q.left) (side_same_lt x e s)
    (below_same (key (top p)) (key e) (found_top H x (λ b. Below b e) f q.all_below))
found_faultless H x (go_right {l} {r} {e} {p} s f) h =
    let q = ascending_parted (inorder l) e (inorder r) h in
    fault_none x e (label H l) p (found_faultless H x f q.right) (side_same_gt x e s)
    (above_same (key (top p)) (key e) (found_top H x (Below e) f q.all_above))

-- Step 6: the foot is x's node exactly if x is listed

listed_append : (x : Octets) (es fs : List Octets) → listed x (es ++ fs) ≡ (listed x es || listed x fs)
unfolding listed
listed_append x [] fs = refl
listed_append x (e ∷ es) fs = rw (listed_append x es fs, or_assoc (same x (key e)) (listed x es) (listed x fs))

unlisted : (x : Octets) (es : List Octets) → Each (λ e. same x (key e) ≡ false) es → listed x es ≡ false
unfolding listed
unlisted x [] h = refl
unlisted x (e ∷ es) h = rw h.0 (unlisted x es h.1)

-- x below e is not among the entries above e, nor x above e among those below
above_below : (x e f : Octets) → side x e ≡ Ordering.lt → Below e f → same x (key f) ≡ false
unfolding side
above_below x e f s b = below_same x (key f) (order_trans x (key e) (key f) s b)

below_above : (x e f : Octets) → side x e ≡ Ordering.gt → Below f e → same x (key f) ≡ false
unfolding side
below_above x e f s b =
    let above : order (key e) x ≡ Ordering.lt = rw (order_flip x (key e), s) in
    above_same x (key f) (order_trans (key f) (key e) x b above)

unlisted_above : (x e : Octets) (es : List Octets) → side x e ≡ Ordering.lt → Each (Below e) es → listed x es ≡ false
unlisted_above x e es s h = unlisted x es (each_map (Below e) (λ f. same x (key f) ≡ false) (λ f b. above_below x e f s b) es h)

unlisted_below : (x e : Octets) (es : List Octets) → side x e ≡ Ordering.gt → Each (λ f. Below f e) es → listed x es ≡ false
unlisted_below x e es s h =
    unlisted x es (each_map (λ f. Below f e) (λ f. same x (key f) ≡ false) (λ f b. below_above x e f s b) es h)

pub found_listed : (H : Octets → Octets) (x : Octets) {t : Tree} {p : Path} → Found H x t p → Ascending (inorder t)
    → listed x (inorder t) ≡ same x (key (foot_entry p))
unfolding listed inorder foot_entry
found_listed H x (hit {l} {r} {e} s) h =
    rw (listed_append x (inorder l) (e ∷ inorder r), side_same_eq x e s) (or-true (listed x (inorder l)))
found_listed H x (end_left {r} {e} s) h = rw (side_same_lt x e s, unlisted_above x e (inorder r) s h.0)
found_listed H x (end_right {l} {e} s) h =
    let q = ascending_parted (inorder l) e [] h in
    rw (listed_append x (inorder l) (e ∷ []), side_same_gt x e s, unlisted_below x e (inorder l) s q.all_below)
found_listed H x (go_left {l} {r} {e} {p} s f) h =
    let q = ascending_parted (inorder l) e (inorder r) h in
    rw (
      listed_append x (inorder l) (e ∷ inorder r),
      side_same_lt x e s,
      unlisted_above x e (inorder r) s q.all_above,
      or-false (listed x (inorder l)),
    )
    (found_listed H x f q.left)
found_listed H x (go_right {l} {r} {e} {p} s f) h =
    let q = ascending_parted (inorder l) e (inorder r) h in
    rw (listed_append x (inorder l) (e ∷ inorder r), side_same_gt x e s, unlisted_below x e (inorder l) s q.all_below)
    (found_listed H x f q.right)

-- What holds of the tree's entries and of every label holds throughout the path

module _ (H : Octets → Octets) (x : Octets) (P : Octets → Type 0) (Q : Child → Type 0) (labelled : (t : Tree) → Q (label H t)) where
  pub found_throughout : {t : Tree} {p : Path} → Found H x t p → Each P (inorder t) → Throughout P Q p
  unfolding inorder label
  found_throughout (hit {l} {r} {e} s) h = ((each_right P (inorder l) (e ∷ inorder r) h).0, labelled l, labelled r)
  found_throughout (end_left {r} {e} s) h = (h.0, labelled leaf, labelled r)
  found_throughout (end_right {l} {e} s) h = ((each_right P (inorder l) (e ∷ []) h).0, labelled l, labelled leaf)
  found_throughout (go_left {l} {r} {e} s f) h =
      let q = each_right P (inorder l) (e ∷ inorder r) h in
      (q.0, labelled r, found_throughout f (each_left P (inorder l) (e ∷ inorder r) h))
  found_throughout (go_right {l} {r} {e} s f) h =
      let q = each_right P (inorder l) (e ∷ inorder r) h in
      (q.0, labelled l, found_throughout f q.1)

pub found_sized : (H : Octets → Octets) → ((m : Octets) → length (H m) ≡ 32) → (x : Octets) (w : ℕ) {t : Tree} {p : Path} → Found H x t p
    → Each (λ e. length e ≡ w) (inorder t) → Sized w p
found_sized H H_length x w = found_throughout H x (λ e. length e ≡ w) Labelled (label_labelled H H_length)
