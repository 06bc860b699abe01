-- An attestation is five texts, one after the other, and so are the writes: room for each, and what all have written.
use mathlib.Core.Path.{◌≡◌, refl}
use mathlib.Core.List.{[], ◌∷◌, ◌++◌, append_assoc}
use Prim.Native.Nat.{ℕ, suc, ◌-◌, ◌≤◌}
use native.Mathlib.Omega.{arith}
use lib.ListN.{length}
use Rattle.octets.specs.declared.Writer.{Writer}
use Rattle.octets.specs.Order.{Octets}
use Rattle.octets.specs.Writer.{HasRoom, Writes}
use Rattle.octets.proofs.WriterLaws.{Joined, room_first, room_second, writes_both}
use Rattle.attester.specs.Path.{Path, height}
use Rattle.attester.specs.Attestation.{render}
use Rattle.attestation.specs.Parts.{key_octets, foot_octets, sibling_octets}

pub count_room : (p : Path) {n : ℕ} → length (render p) ≤ n → 1 ≤ n
unfolding render
count_room p h = omega arith

module _ (p : Path) {k : ℕ} (is : k ≡ suc (height p)) where
  abbrev from_count : Octets
  from_count = ((k - 1) ∷ []) ++ sibling_octets p

  abbrev from_foot : Octets
  from_foot = foot_octets p ++ from_count

  abbrev from_keys : Octets
  from_keys = key_octets p ++ from_foot

  whole : Joined (render p) (k ∷ []) from_keys
  unfolding render
  whole = let above : k - 1 ≡ height p = omega arith in record { joined = rw (above, is) (simp append_assoc) }

  keys_first : Joined from_keys (key_octets p) from_foot
  keys_first = record { joined = refl }

  foot_first : Joined from_foot (foot_octets p) from_count
  foot_first = record { joined = refl }

  count_first : Joined from_count ((k - 1) ∷ []) (sibling_octets p)
  count_first = record { joined = refl }

  module _ {w w₁ : Writer} (h₁ : Writes w (k ∷ []) w₁) (front : w.at ≡ 0) (fits : length (render p) ≤ length w.out.now) where
    room : HasRoom w (render p)
    room = omega (arith, front, fits)

    room₁ : HasRoom w₁ from_keys
    room₁ = room_second whole w room h₁

    pub keys_room : HasRoom w₁ (key_octets p)
    keys_room = room_first keys_first w₁ room₁

    module _ {w₂ : Writer} (h₂ : Writes w₁ (key_octets p) w₂) where
      room₂ : HasRoom w₂ from_foot
      room₂ = room_second keys_first w₁ room₁ h₂

      pub foot_room : HasRoom w₂ (foot_octets p)
      foot_room = room_first foot_first w₂ room₂

      module _ {w₃ : Writer} (h₃ : Writes w₂ (foot_octets p) w₃) where
        room₃ : HasRoom w₃ from_count
        room₃ = room_second foot_first w₂ room₂ h₃

        pub siblings_count_room : HasRoom w₃ ((k - 1) ∷ [])
        siblings_count_room = room_first count_first w₃ room₃

        module _ {w₄ : Writer} (h₄ : Writes w₃ ((k - 1) ∷ []) w₄) where
          pub siblings_room : HasRoom w₄ (sibling_octets p)
          siblings_room = room_second count_first w₃ room₃ h₄

          pub render_written : {w₅ : Writer} → Writes w₄ (sibling_octets p) w₅ → Writes w (render p) w₅
          render_written h₅ =
              writes_both whole w room h₁
              (writes_both keys_first w₁ room₁ h₂ (writes_both foot_first w₂ room₂ h₃ (writes_both count_first w₃ room₃ h₄ h₅)))
