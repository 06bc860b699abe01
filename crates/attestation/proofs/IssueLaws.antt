-- What stands on the path in a key list, one level at a time: a child is there where its part has keys, and what is written for a
-- step comes after what is written for the path below it.
use mathlib.Core.Path.{◌≡◌, refl, ap}
use Rattle.std.specs.Prelude.{None, Some}
use mathlib.Core.List.{[], ◌∷◌, map, flatten, append-nil, map-append}
use mathlib.Core.Option.{none, some}
use Prim.Native.Nat.{ℕ, suc, ◌+◌, ◌*◌, ◌/◌, ◌≤◌, ◌<◌}
use native.Mathlib.Omega.{arith}
use lib.ListN.{length, take, drop}
use Rattle.octets.specs.Order.{Octets}
use Rattle.attester.specs.Entry.{entries}
use Rattle.attester.specs.Record.{Child, Labels, bit, child_octets}
use Rattle.attester.specs.Tree.{tree}
use Rattle.attester.specs.Label.{label, digest}
use Rattle.attester.specs.Path.{foot, step, foot_left, foot_right, height, keys, siblings}
use Rattle.attester.specs.Attestation.{optional_octets, render}
use Rattle.attester.proofs.Sizes.{Sized}
use Rattle.attester.proofs.EntryLaws.{entries_length, entries_sized}
use Rattle.attester.proofs.LabelLaws.{label_none, label_bit}
use Rattle.attester.proofs.LengthLaws.{flatten_append, levels_length, levels_length_is, labels_most, render_levels}
use Rattle.attester.proofs.TreeLaws.{inorder_of_tree}
use Rattle.attester.proofs.DepthLaws.{depth_most}
use Rattle.attester.proofs.SearchStepLaws.{search_keys}
use Rattle.attester.proofs.SearchLaws.{found_low, found_sized}
use Rattle.attester.proofs.AttestationLaws.{issued_found}
use Rattle.tree.specs.Edition.{width}
use Rattle.tree.specs.Labels.{label_of}
use Rattle.attestation.specs.declared.parts.Search.{Search}
use Rattle.attestation.specs.Parts.{Keyed, middle_at, middle_key, aside_part, child_of, path_in, key_octets, foot_octets, sibling_octets}
use Rattle.attestation.specs.Search.{path_by, Onward}
use Rattle.attestation.proofs.PartsLaws.{path_here, path_on, on_shorter}
use Rattle.octets.proofs.WriterLaws.{Joined}

-- some label function, where the labels do not matter
abbrev pub bare : Octets → Octets
bare r = []

-- The child of a part

pub child_none : (H : Octets → Octets) (s : Octets) → length s < 20 → child_of H s ≡ none
unfolding child_of entries
child_none H s h = let z : length s / 20 ≡ 0 = omega arith in rw z (label_none H)

pub child_bit : (H : Octets → Octets) (s : Octets) → 20 ≤ length s → bit (child_of H s) ≡ 1
unfolding child_of
child_bit H s h = label_bit H (entries 20 (length s / 20) s) (rw (entries_length 20 (length s / 20) s) (omega arith))

some_of_bit : (c : Child) → bit c ≡ 1 → c ≡ some (child_octets c)
unfolding child_octets
some_of_bit none h = absurd (omega arith)
some_of_bit (some l) h = refl

pub child_some : (H : Octets → Octets) (s : Octets) → 20 ≤ length s → child_of H s ≡ some (label_of H width s)
unfolding child_of label_of digest
child_some H s h = some_of_bit (label H (tree (entries 20 (length s / 20) s))) (child_bit H s h)

pub optional_none : (H : Octets → Octets) (s : Octets) → length s < 20 → optional_octets (child_of H s) ≡ 0 ∷ []
unfolding optional_octets
optional_none H s h = rw (child_none H s h)

pub optional_some : (H : Octets → Octets) (s : Octets) {l : Octets} → 20 ≤ length s → l ≡ label_of H width s → Joined (optional_octets (child_of H s)) (1 ∷ []) l
unfolding optional_octets
optional_some H s h e = record { joined = rw (child_some H s h, e) }

-- The path as a whole

module _ (x s : Octets) (k : Keyed s) where
  number : length (entries width (length s / width) s) ≡ length s / 20
  number = entries_length 20 (length s / 20) s

  positive : 0 < length (entries width (length s / width) s)
  positive = omega (arith, number, k.some_key)

  -- the path has at most 32 keys
  pub path_low : (H : Octets → Octets) → suc (height (path_in H x s)) ≤ 32
  unfolding path_in
  path_low H =
      omega (
        arith,
        found_low H x (issued_found H (entries width (length s / width) s) x positive),
        depth_most 32 (entries width (length s / width) s) (omega (arith, number, k.few)),
      )

  pub path_short : (H : Octets → Octets) → levels_length width (path_in H x s) ≤ 2000
  path_short H = omega (arith, levels_length_is width (path_in H x s), labels_most (path_in H x s), path_low H)

  pub path_sized : (H : Octets → Octets) → Labels H → Sized width (path_in H x s)
  unfolding path_in
  path_sized H H_length =
      found_sized H H_length x width (issued_found H (entries width (length s / width) s) x positive)
      (rw (inorder_of_tree (entries width (length s / width) s)) (entries_sized 20 (length s / 20) s (omega (arith, k.whole))))

  pub render_room : (H : Octets → Octets) → Labels H → length (render (path_in H x s)) ≡ 3 + levels_length width (path_in H x s)
  render_room H H_length = render_levels width (path_in H x s) (path_sized H H_length)

  -- the keys are the same whatever the labels
  pub keys_alike : (H G : Octets → Octets) → keys (path_in H x s) ≡ keys (path_in G x s)
  unfolding path_in
  keys_alike H G = search_keys H G x (tree (entries width (length s / width) s))

-- The path one level at a time

module _ (s : Search) where
  pub shorter : (on : Search) → Onward s (Some on) → length on.keys.now < length s.keys.now
  shorter on o = omega (arith, on_shorter s.keys.now s.keyed s.x.now o.1 on.keyed.some_key)

  module _ (H : Octets → Octets) where
    -- where it ends
    module _ (ends : Onward s None) where
      here : path_by H s ≡ foot (middle_key s.keys.now) (child_of H (take (middle_at s.keys.now) s.keys.now)) (child_of H (drop (middle_at s.keys.now + 20) s.keys.now))
      here = path_here s.keys.now s.keyed s.x.now H ends

      pub levels_length_here : {l r : Octets} {a b : ℕ} → l ≡ take (middle_at s.keys.now) s.keys.now → r ≡ drop (middle_at s.keys.now + 20) s.keys.now
          → a ≡ bit (child_of H l) → b ≡ bit (child_of H r) → 21 + 32 * (a + b) ≡ levels_length width (path_by H s)
      unfolding levels_length
      levels_length_here el er ea eb = rw (here, ea, eb, el, er)

      pub height_here : height (path_by H s) ≡ 0
      unfolding height
      height_here = rw here

      pub keys_here : {m : Octets} → m ≡ middle_key s.keys.now → Joined (key_octets (path_by H s)) [] m
      unfolding keys flatten
      keys_here em = record { joined = rw (here, em) (append-nil (middle_key s.keys.now)) }

      pub foot_here : {l r : Octets} → l ≡ take (middle_at s.keys.now) s.keys.now → r ≡ drop (middle_at s.keys.now + 20) s.keys.now
          → Joined (foot_octets (path_by H s)) (optional_octets (child_of H l)) (optional_octets (child_of H r))
      unfolding foot_left foot_right
      foot_here el er = record { joined = rw (here, el, er) }

      pub siblings_here : sibling_octets (path_by H s) ≡ []
      unfolding siblings flatten
      siblings_here = rw here

    -- where it goes on
    module _ (on : Search) (o : Onward s (Some on)) where
      further : path_by H s ≡ step (middle_key s.keys.now) (child_of H (aside_part s.x.now s.keys.now)) (path_by H on)
      further = rw (o.0, o.1) (path_on s.keys.now s.keyed s.x.now H (omega (arith, ap length o.1, on.keyed.some_key)))

      pub levels_length_on : {l : Octets} {a b : ℕ} → l ≡ aside_part s.x.now s.keys.now → a ≡ bit (child_of H l) → b ≡ levels_length width (path_by H on)
          → 21 + 32 * a + b ≡ levels_length width (path_by H s)
      unfolding levels_length
      levels_length_on el ea eb = rw (further, ea, eb, el)

      pub height_on : height (path_by H s) ≡ suc (height (path_by H on))
      unfolding height
      height_on = rw further

      pub keys_on : {m : Octets} → m ≡ middle_key s.keys.now → Joined (key_octets (path_by H s)) (key_octets (path_by H on)) m
      unfolding keys flatten
      keys_on em =
          record { joined = rw (further, em, flatten_append (keys (path_by H on)) (middle_key s.keys.now ∷ []), append-nil (middle_key s.keys.now)) }

      pub foot_on : foot_octets (path_by H s) ≡ foot_octets (path_by H on)
      unfolding foot_left foot_right
      foot_on = rw further

      pub siblings_on : {l : Octets} → l ≡ aside_part s.x.now s.keys.now
          → Joined (sibling_octets (path_by H s)) (sibling_octets (path_by H on)) (optional_octets (child_of H l))
      unfolding siblings flatten
      siblings_on {l} el = record {
        joined =
            rw (
              further,
              el,
              map-append optional_octets (siblings (path_by H on)) (child_of H (aside_part s.x.now s.keys.now) ∷ []),
              flatten_append (map optional_octets (siblings (path_by H on))) (optional_octets (child_of H (aside_part s.x.now s.keys.now)) ∷ []),
              append-nil (optional_octets (child_of H (aside_part s.x.now s.keys.now))),
            );
      }

-- what a function that follows the path asks for, level by level
pub ruleset levels = (
  shorter,
  levels_length_here,
  levels_length_on,
  height_here,
  height_on,
  keys_here,
  keys_on,
  foot_here,
  foot_on,
  siblings_here,
  siblings_on,
)
