-- The search in a part of the key list: it ends at the middle key, or goes on in the part on x's side. The parts of the octets are
-- the parts of the tree.
use mathlib.Core.Path.{◌≡◌, refl, ap, ◌∙◌}
use mathlib.Core.List.{[]}
use mathlib.Core.Option.{none}
use Prim.Native.Nat.{suc, ◌+◌, ◌-◌, ◌*◌, ◌/◌, ◌≤◌, ◌<◌, Ordering}
use native.Mathlib.Nat.{le_refl}
use native.Mathlib.Omega.{arith}
use lib.ListN.{length, take, drop, length-drop}
use lib.Seq.{take-take, length-take-le}
use Rattle.octets.specs.Order.{Octets, order}
use Rattle.std.specs.declared.cmp.Ordering as std
use Rattle.std.specs.declared.cmp.Ordering.TheVariants.{Less, Equal, Greater}
use Rattle.std.specs.Ordering.{ordering_reverse}
use Rattle.octets.specs.Compared.{order_of}
use Rattle.attester.specs.Entry.{key, entries}
use Rattle.attester.specs.Tree.{tree}
use Rattle.attester.specs.Label.{label}
use Rattle.attester.specs.Verdict.{side}
use Rattle.attester.specs.Path.{foot, step}
use Rattle.attester.specs.Search.{search}
use Rattle.attester.proofs.EntryLaws.{entries_front}
use Rattle.attester.proofs.LabelLaws.{label_none}
use Rattle.attester.proofs.SearchStepLaws.{search_entries_hit, search_entries_end_left, search_entries_end_right, search_entries_left, search_entries_right}
use Rattle.attestation.specs.Parts.{Keyed, middle_at, middle_key, by_side, onward_part, aside_part, child_of, path_in}

-- the part on x's side, and the one on the other, by the answer of the comparison with the middle key
module _ (x s : Octets) (r : std.Ordering) (compared : order_of r ≡ order x (middle_key s)) where
  pub onward_is : by_side (order_of r) (take (middle_at s) s) [] (drop (middle_at s + 20) s) ≡ onward_part x s
  unfolding onward_part
  onward_is = ap (λ (o : Ordering). by_side o (take (middle_at s) s) [] (drop (middle_at s + 20) s)) compared

  pub aside_is : by_side (order_of (ordering_reverse r)) (take (middle_at s) s) [] (drop (middle_at s + 20) s) ≡ aside_part x s
  unfolding aside_part
  aside_is = turned r ∙ ap (λ (o : Ordering). by_side o (drop (middle_at s + 20) s) [] (take (middle_at s) s)) compared
    where
      turned : (r : std.Ordering) → by_side (order_of (ordering_reverse r)) (take (middle_at s) s) [] (drop (middle_at s + 20) s)
          ≡ by_side (order_of r) (drop (middle_at s + 20) s) [] (take (middle_at s) s)
      turned Less = refl
      turned Equal = refl
      turned Greater = refl

module _ (s : Octets) (k : Keyed s) where
  -- the left part holds floor(n / 2) keys, the right part those after the middle one
  left_length : length (take (middle_at s) s) ≡ 20 * (length s / 20 / 2)
  unfolding middle_at
  left_length = length-take-le (20 * (length s / 20 / 2)) s (omega (arith, k.some_key))

  left_entries : entries 20 (length (take (middle_at s) s) / 20) (take (middle_at s) s) ≡ entries 20 (length s / 20 / 2) s
  unfolding middle_at
  left_entries =
      let n : length (take (20 * (length s / 20 / 2)) s) / 20 ≡ length s / 20 / 2 = omega (arith, left_length) in
      rw n (entries_front 20 (length s / 20 / 2) (20 * (length s / 20 / 2)) s (omega arith))

  right_length : length (drop (middle_at s + 20) s) ≡ length s - (20 * (length s / 20 / 2) + 20)
  unfolding middle_at
  right_length = length-drop (20 * (length s / 20 / 2) + 20) s

  right_entries : entries 20 (length (drop (middle_at s + 20) s) / 20) (drop (middle_at s + 20) s)
      ≡ entries 20 (length s / 20 - suc (length s / 20 / 2)) (drop (suc (length s / 20 / 2) * 20) s)
  unfolding middle_at
  right_entries =
      let n : length (drop (20 * (length s / 20 / 2) + 20) s) / 20 ≡ length s / 20 - suc (length s / 20 / 2) = omega (arith, right_length, k.whole, k.some_key) in
      let m : 20 * (length s / 20 / 2) + 20 ≡ suc (length s / 20 / 2) * 20 = omega arith in
      rw (n, m)

  left_child : (H : Octets → Octets) → child_of H (take (middle_at s) s) ≡ label H (tree (entries 20 (length s / 20 / 2) s))
  unfolding child_of
  left_child H = rw left_entries

  right_child : (H : Octets → Octets) → child_of H (drop (middle_at s + 20) s) ≡ label H (tree (entries 20 (length s / 20 - suc (length s / 20 / 2)) (drop (suc (length s / 20 / 2) * 20) s)))
  unfolding child_of
  right_child H = rw right_entries

  middle_is : middle_key s ≡ take 20 (drop (length s / 20 / 2 * 20) s)
  unfolding middle_at
  middle_is = let m : 20 * (length s / 20 / 2) ≡ length s / 20 / 2 * 20 = omega arith in rw m

  some_entry : 0 < length s / 20
  some_entry = omega (arith, k.some_key)

  -- a side with keys is a key list with fewer keys
  module _ (o : Ordering) {on : Octets} (is : on ≡ by_side o (take (middle_at s) s) [] (drop (middle_at s + 20) s)) (some : 20 ≤ length on) where
    pub side_keyed : Keyed on
    side_keyed = go o is
      where
        go : (o : Ordering) → on ≡ by_side o (take (middle_at s) s) [] (drop (middle_at s + 20) s) → Keyed on
        go Ordering.lt e = record { some_key = some; whole = omega (arith, ap length e, left_length); few = omega (arith, ap length e, left_length, k.few) }
        go Ordering.eq e = absurd (omega (arith, ap length e))
        go Ordering.gt e = record { some_key = some; whole = omega (arith, ap length e, right_length, k.whole); few = omega (arith, ap length e, right_length, k.few) }

    side_shorter : length on + 20 ≤ length s
    side_shorter = go o is
      where
        go : (o : Ordering) → on ≡ by_side o (take (middle_at s) s) [] (drop (middle_at s + 20) s) → length on + 20 ≤ length s
        go Ordering.lt e = omega (arith, ap length e, left_length, k.whole, k.some_key)
        go Ordering.eq e = absurd (omega (arith, ap length e))
        go Ordering.gt e = omega (arith, ap length e, right_length, k.whole, k.some_key)

  module _ (x : Octets) where
    middle_side : (o : Ordering) → order x (middle_key s) ≡ o → side x (take 20 (drop (length s / 20 / 2 * 20) s)) ≡ o
    unfolding side key
    middle_side o e = rw (take-take 20 20 (drop (length s / 20 / 2 * 20) s) (le_refl _), ← middle_is) e

    -- the search ends where no keys are left on x's side
    pub path_here : (H : Octets → Octets) → length (onward_part x s) < 20 → path_in H x s ≡ foot (middle_key s) (child_of H (take (middle_at s) s)) (child_of H (drop (middle_at s + 20) s))
    unfolding path_in onward_part entries
    path_here H h = go (order x (middle_key s)) refl h
      where
        go : (o : Ordering) → order x (middle_key s) ≡ o → length (by_side o (take (middle_at s) s) [] (drop (middle_at s + 20) s)) < 20
            → search H x (tree (entries 20 (length s / 20) s)) ≡ foot (middle_key s) (child_of H (take (middle_at s) s)) (child_of H (drop (middle_at s + 20) s))
        go Ordering.lt e g =
            let z : length s / 20 / 2 ≡ 0 = omega (arith, left_length) in
            let n : label H (tree (entries 20 (length s / 20 / 2) s)) ≡ none = rw z (label_none H) in
            rw (middle_is, left_child H, right_child H, n) (search_entries_end_left H x 20 (length s / 20) s some_entry (middle_side Ordering.lt e) z)
        go Ordering.eq e g =
            rw (middle_is, left_child H, right_child H) (search_entries_hit H x 20 (length s / 20) s some_entry (middle_side Ordering.eq e))
        go Ordering.gt e g =
            let z : length s / 20 - suc (length s / 20 / 2) ≡ 0 = omega (arith, right_length, k.whole) in
            let n : label H (tree (entries 20 (length s / 20 - suc (length s / 20 / 2)) (drop (suc (length s / 20 / 2) * 20) s))) ≡ none = rw z (label_none H) in
            rw (middle_is, left_child H, right_child H, n) (search_entries_end_right H x 20 (length s / 20) s some_entry (middle_side Ordering.gt e) z)

    pub path_on : (H : Octets → Octets) → 20 ≤ length (onward_part x s) → path_in H x s ≡ step (middle_key s) (child_of H (aside_part x s)) (path_in H x (onward_part x s))
    unfolding path_in onward_part aside_part
    path_on H h = go (order x (middle_key s)) refl h
      where
        go : (o : Ordering) → order x (middle_key s) ≡ o → 20 ≤ length (by_side o (take (middle_at s) s) [] (drop (middle_at s + 20) s))
            → search H x (tree (entries 20 (length s / 20) s))
            ≡ step (middle_key s) (child_of H (by_side o (drop (middle_at s + 20) s) [] (take (middle_at s) s)))
            (path_in H x (by_side o (take (middle_at s) s) [] (drop (middle_at s + 20) s)))
        go Ordering.lt e g =
            rw (middle_is, right_child H, left_entries) (search_entries_left H x 20 (length s / 20) s some_entry (middle_side Ordering.lt e) (omega (arith, left_length)))
        go Ordering.eq e g = absurd (omega arith)
        go Ordering.gt e g =
            rw (middle_is, left_child H, right_entries) (search_entries_right H x 20 (length s / 20) s some_entry (middle_side Ordering.gt e) (omega (arith, right_length, k.whole)))

    pub on_shorter : {on : Octets} → on ≡ onward_part x s → 20 ≤ length on → length on + 20 ≤ length s
    unfolding onward_part
    on_shorter e some = side_shorter (order x (middle_key s)) e some
