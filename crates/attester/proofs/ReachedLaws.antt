-- Attestations that are as long as any. Issued: halving a list to the left until two entries are left, each level has both
-- its children; then the second entry is a foot with one label, and the first is one level more. Taken by the verifier: a path
-- of 32 levels with every label, for the key of its foot.
use mathlib.Core.Path.{◌≡◌, refl, sym, ap, ◌∙◌}
use mathlib.Core.Bool.{false}
use mathlib.Core.List.{List, []}
use mathlib.Core.Option.{none, some}
use Prim.Native.Nat.{Ordering}
use Prim.Native.Nat.{ℕ, zero, suc, ◌+◌, ◌*◌, ◌/◌, ◌^◌, ◌≤◌, ◌<◌}
use native.Mathlib.Omega.{arith}
use lib.ListN.{length, take, drop, get_or, replicate, length-take, length-drop, length-replicate, drop_of_length-le}
use lib.Pow.{pow_pos}
use lib.Seq.{get_or-take}
use Rattle.octets.specs.Order.{Octets}
use Rattle.octets.proofs.OctetLaws.{octets_zeros}
use Rattle.octets.proofs.OrderLaws.{order_refl}
use Rattle.attester.specs.Entry.{key}
use Rattle.attester.specs.Record.{Child, bit}
use Rattle.attester.specs.Tree.{tree}
use Rattle.attester.specs.Label.{label}
use Rattle.attester.specs.Listing.{Ascending}
use Rattle.attester.specs.Path.{Path, foot, step, top, foot_entry, height}
use Rattle.attester.specs.Verdict.{side, child_there, hidden, fault}
use Rattle.attester.specs.Search.{search}
use Rattle.attester.specs.Attestation.{optional_octets}
use Rattle.attester.proofs.Sizes.{Sized}
use Rattle.attester.proofs.TreeLaws.{tree_node}
use Rattle.attester.proofs.LabelLaws.{label_none, label_bit}
use Rattle.attester.proofs.ListingLaws.{ascending_at, ascending_take}
use Rattle.attester.proofs.VerdictLaws.{fault_none}
use Rattle.attester.proofs.SearchStepLaws.{tree_grown, search_hit, search_left}
use Rattle.attester.proofs.OctetLaws.{OctetPath}
use Rattle.attester.proofs.LengthLaws.{levels_length}
use Rattle.attester.proofs.NumberedLaws.{numbered, numbered_length, numbered_octets, numbered_other}

-- The paths of the first and of the second entry

side_own : (e : Octets) → side (key e) e ≡ Ordering.eq
unfolding side
side_own e = order_refl (key e)

no_bit : (H : Octets → Octets) (es : List Octets) (n : ℕ) → length es ≤ n → bit (label H (tree (drop n es))) ≡ 0
no_bit H es n h = rw (drop_of_length-le es h, label_none H)

module _ (H : Octets → Octets) (w : ℕ) where
  -- alone in its list
  lone_levels : (es : List Octets) (x : Octets) → length es ≡ 1 → x ≡ key (get_or es 0 []) → levels_length w (search H x (tree es)) ≡ w + 1
  unfolding levels_length
  lone_levels es x n is =
      let half : length es / 2 ≡ 0 = omega arith in
      let here : side x (get_or es 0 []) ≡ Ordering.eq = rw is (side_own (get_or es 0 [])) in
      let ends : search H x (tree es) ≡ foot (get_or es 0 []) (label H (tree [])) (label H (tree (drop 1 es))) =
      rw (tree_node es (omega arith), half) (search_hit H x (tree []) (get_or es 0 []) (tree (drop 1 es)) here) in
      rw (ends, label_none H) (omega (arith, no_bit H es 1 (omega arith)))

  first_of_two : (es : List Octets) (x : Octets) → Ascending es → length es ≡ 2 → x ≡ key (get_or es 0 [])
      → levels_length w (search H x (tree es)) ≡ 2 * (w + 1)
  unfolding levels_length side
  first_of_two es x up n is =
      let half : length es / 2 ≡ 1 = omega arith in
      let m : length (take 1 es) ≡ 1 = simp length-take (omega arith) in
      let below : side x (get_or es 1 []) ≡ Ordering.lt = rw is (ascending_at es 0 1 up (omega arith) (omega arith)) in
      let goes : search H x (tree es) ≡ step (get_or es 1 []) (label H (tree (drop 2 es))) (search H x (tree (take 1 es))) =
      rw (tree_node es (omega arith), half)
      (search_left H x (tree (take 1 es)) (get_or es 1 []) (tree (drop 2 es)) below (tree_grown (take 1 es) (omega arith))) in
      let first : x ≡ key (get_or (take 1 es) 0 []) = is ∙ ap key (sym (get_or-take 1 es 0 [] (omega arith))) in
      rw goes (omega (arith, no_bit H es 2 (omega arith), lone_levels (take 1 es) x m first))

  second_of_two : (es : List Octets) (x : Octets) → length es ≡ 2 → x ≡ key (get_or es 1 [])
      → levels_length w (search H x (tree es)) ≡ w + 33
  unfolding levels_length
  second_of_two es x n is =
      let half : length es / 2 ≡ 1 = omega arith in
      let here : side x (get_or es 1 []) ≡ Ordering.eq = rw is (side_own (get_or es 1 [])) in
      let ends : search H x (tree es) ≡ foot (get_or es 1 []) (label H (tree (take 1 es))) (label H (tree (drop 2 es))) =
      rw (tree_node es (omega arith), half) (search_hit H x (tree (take 1 es)) (get_or es 1 []) (tree (drop 2 es)) here) in
      rw ends (omega (arith, label_bit H (take 1 es) (simp length-take (omega arith)), no_bit H es 2 (omega arith)))

  -- 2 * 2 ^ b to 3 * 2 ^ b - 1 entries come to two after b levels; i is 0 or 1, and c what is added where two are left
  module _ (i c : ℕ) (i_most : i ≤ 1) where
    abbrev OfTwo : Type 0
    OfTwo = (es : List Octets) (x : Octets) → Ascending es → length es ≡ 2 → x ≡ key (get_or es i []) → levels_length w (search H x (tree es)) ≡ c

    left_levels : OfTwo → (b : ℕ) (es : List Octets) (x : Octets) → Ascending es → 2 * 2 ^ b ≤ length es → length es < 3 * 2 ^ b
        → x ≡ key (get_or es i []) → levels_length w (search H x (tree es)) ≡ (w + 33) * b + c
    unfolding levels_length side
    left_levels two zero es x up least most is = omega (arith, two es x up (omega arith) is)
    left_levels two (suc b) es x up least most is =
        let positive = pow_pos b in
        let h = length es / 2 in
        let left = take h es in
        let right = drop (suc h) es in
        let n : length left ≡ h = simp length-take (omega arith) in
        let m : 0 < length right = simp length-drop (omega arith) in
        let below : side x (get_or es h []) ≡ Ordering.lt = rw is (ascending_at es i h up (omega arith) (omega arith)) in
        let goes : search H x (tree es) ≡ step (get_or es h []) (label H (tree right)) (search H x (tree left)) =
        rw (tree_node es (omega arith)) (search_left H x (tree left) (get_or es h []) (tree right) below (tree_grown left (omega arith))) in
        let same_entry : x ≡ key (get_or left i []) = is ∙ ap key (sym (get_or-take h es i [] (omega arith))) in
        rw goes (omega (arith, label_bit H right m, left_levels two b left x (ascending_take h es up) (omega arith) (omega arith) same_entry))

  module _ (b : ℕ) (es : List Octets) (up : Ascending es) (least : 2 * 2 ^ b ≤ length es) (fewer : length es < 3 * 2 ^ b) where
    pub first_levels : levels_length w (search H (key (get_or es 0 [])) (tree es)) ≡ (w + 33) * b + 2 * (w + 1)
    first_levels = left_levels 0 (2 * (w + 1)) (omega arith) first_of_two b es (key (get_or es 0 [])) up least fewer refl

    pub second_levels : levels_length w (search H (key (get_or es 1 [])) (tree es)) ≡ (w + 33) * b + (w + 33)
    second_levels =
        left_levels 1 (w + 33) (omega arith) (λ fs x q n e. second_of_two fs x n e) b es (key (get_or es 1 [])) up least fewer refl

-- A path of n levels above the foot, with every label; its keys are the numbers from 0, at the foot, to n

some_label : Child
some_label = some (replicate 32 0)

unfoldable pub tower : ℕ → ℕ → Path
unfolding some_label
tower w zero = foot (numbered w 0) some_label some_label
tower w (suc n) = step (numbered w (suc n)) some_label (tower w n)

tower_top : (w n : ℕ) → top (tower w n) ≡ numbered w n
unfolding tower top
tower_top w zero = refl
tower_top w (suc n) = refl

pub tower_foot : (w n : ℕ) → foot_entry (tower w n) ≡ numbered w 0
unfolding tower foot_entry
tower_foot w zero = refl
tower_foot w (suc n) = tower_foot w n

pub tower_height : (w n : ℕ) → height (tower w n) ≡ n
unfolding tower height
tower_height w zero = refl
tower_height w (suc n) = ap suc (tower_height w n)

pub tower_sized : (w n : ℕ) → 2 ≤ w → Sized w (tower w n)
unfolding tower some_label
tower_sized w zero h = (numbered_length w 0 h, length-replicate {A = ℕ} 32 0, length-replicate {A = ℕ} 32 0)
tower_sized w (suc n) h = (numbered_length w (suc n) h, length-replicate {A = ℕ} 32 0, tower_sized w n h)

pub tower_octets : (w n : ℕ) → n < 65536 → OctetPath (tower w n)
unfolding tower some_label optional_octets
tower_octets w zero h = (numbered_octets w 0 h, (omega arith, octets_zeros 32), (omega arith, octets_zeros 32))
tower_octets w (suc n) h = (numbered_octets w (suc n) h, (omega arith, octets_zeros 32), tower_octets w n (omega arith))

pub tower_levels : (w n : ℕ) → levels_length w (tower w n) ≡ (w + 33) * suc n + 32
unfolding tower some_label levels_length
tower_levels w zero = omega arith
tower_levels w (suc n) = omega (arith, tower_levels w n)

-- steps 3 and 4, for the foot's key
pub tower_open : (w n : ℕ) → hidden (key (numbered w 0)) (tower w n) ≡ false
unfolding hidden child_there
tower_open w n = rw (tower_foot w n, side_own (numbered w 0))

pub tower_faultless : (w n : ℕ) → fault (key (numbered w 0)) (tower w n) ≡ none
unfolding tower fault
tower_faultless w zero = refl
tower_faultless w (suc n) =
    fault_none (key (numbered w 0)) (numbered w (suc n)) some_label (tower w n) (tower_faultless w n)
    (numbered_other w 0 (suc n) (omega arith))
    (rw (tower_top w n) (numbered_other w n (suc n) (omega arith)))
