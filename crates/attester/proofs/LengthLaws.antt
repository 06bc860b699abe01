-- The length of an attestation: three counts, and what each level adds: an entry, a count, and the labels that are there.
use mathlib.Core.Path.{◌≡◌, refl}
use mathlib.Core.List.{List, [], ◌∷◌, ◌++◌, map, flatten, append_assoc, append-nil, map-append}
use mathlib.Core.Option.{none, some}
use Prim.Native.Nat.{ℕ, suc, ◌+◌, ◌*◌, ◌≤◌}
use native.Mathlib.Omega.{arith}
use lib.ListN.{length, length-append}
use Rattle.octets.specs.Order.{Octets}
use Rattle.attester.specs.Record.{Child, bit}
use Rattle.attester.specs.Path.{Path, foot, step, foot_left, foot_right, height, keys, siblings}
use Rattle.attester.specs.Attestation.{optional_octets, render}
use Rattle.attester.proofs.Sizes.{Labelled, Sized}
use Rattle.attester.proofs.RecordLaws.{bit_most}
use Rattle.attester.proofs.PathLaws.{sized_left, sized_right}

-- how many labels stand on a path
unfoldable pub labels : Path → ℕ
labels (foot e l r) = bit l + bit r
labels (step e s p) = bit s + labels p

-- the octets that a path's levels add: each an entry, a count and its labels. The rest is K, K - 1 and the foot's second count.
unfoldable pub levels_length : ℕ → Path → ℕ
levels_length w (foot e l r) = w + 1 + 32 * (bit l + bit r)
levels_length w (step e s p) = w + 1 + 32 * bit s + levels_length w p

pub flatten_append : (l m : List Octets) → flatten (l ++ m) ≡ flatten l ++ flatten m
unfolding flatten
flatten_append [] m = refl
flatten_append (a ∷ l) m = rw (flatten_append l m, append_assoc)

pub optional_octets_length : (c : Child) → Labelled c → length (optional_octets c) ≡ 1 + 32 * bit c
unfolding optional_octets
optional_octets_length none h = refl
optional_octets_length (some l) h = omega arith

module _ (w : ℕ) where
  keys_octets : (p : Path) → Sized w p → length (flatten (keys p)) ≡ suc (height p) * w
  unfolding keys height flatten
  keys_octets (foot e l r) h = rw (append-nil e) (omega (arith, h.0))
  keys_octets (step e s p) h =
      rw (flatten_append (keys p) (e ∷ []), length-append (flatten (keys p)) (e ++ []), append-nil e, keys_octets p h.2, h.0)
      (omega arith)

  siblings_octets : (p : Path) → Sized w p
      → length (flatten (map optional_octets (siblings p))) + 32 * (bit (foot_left p) + bit (foot_right p)) ≡ height p + 32 * labels p
  unfolding siblings height labels foot_left foot_right flatten
  siblings_octets (foot e l r) h = omega arith
  siblings_octets (step e s p) h =
      rw (
        map-append optional_octets (siblings p) (s ∷ []),
        flatten_append (map optional_octets (siblings p)) (optional_octets s ∷ []),
        length-append (flatten (map optional_octets (siblings p))) (optional_octets s ++ []),
        append-nil (optional_octets s),
        optional_octets_length s h.1,
      )
      (omega (arith, siblings_octets p h.2))

  -- K, and the labels that are there, tell the length
  pub render_length : (p : Path) → Sized w p → length (render p) ≡ 3 + suc (height p) * (w + 1) + 32 * labels p
  unfolding render
  render_length p z =
      rw (
        length-append (flatten (keys p)) _,
        length-append (optional_octets (foot_left p)) _,
        length-append (optional_octets (foot_right p)) _,
        optional_octets_length (foot_left p) (sized_left w p z),
        optional_octets_length (foot_right p) (sized_right w p z),
        keys_octets p z,
      )
      (omega (arith, siblings_octets p z))

  pub levels_length_is : (p : Path) → levels_length w p ≡ suc (height p) * (w + 1) + 32 * labels p
  unfolding levels_length height labels
  levels_length_is (foot e l r) = omega arith
  levels_length_is (step e s p) = omega (arith, levels_length_is p)

  pub render_levels : (p : Path) → Sized w p → length (render p) ≡ 3 + levels_length w p
  render_levels p z = omega (arith, render_length p z, levels_length_is p)

-- a level has at most one label, the foot two
pub labels_most : (p : Path) → labels p ≤ height p + 2
unfolding labels height
labels_most (foot e l r) = omega (arith, bit_most l, bit_most r)
labels_most (step e s p) = omega (arith, bit_most s, labels_most p)
