-- The hex digits of octets, octet by octet.
use mathlib.Core.Path.{◌≡◌, refl, ap}
use mathlib.Core.List.{[], ◌∷◌, ◌++◌}
use Prim.Native.Nat.{ℕ, ◌+◌, ◌*◌, ◌/◌, ◌%◌, ◌≤◌, ◌<◌}
use native.Mathlib.Numerals.{add-one}
use native.Mathlib.Omega.{arith}
use lib.ListN.{length, take, get_or, length-take}
use lib.Seq.{take-suc}
use Rattle.octets.specs.Order.{Octets}
use Rattle.octets.specs.Put.{Wrote}
use Rattle.octets.proofs.PutLaws.{wrote_more}
use Rattle.show.specs.Hex.{hex_digit, hex}

pub hex_length : (s : Octets) → length (hex s) ≡ 2 * length s
unfolding hex
hex_length [] = refl
hex_length (c ∷ s) = omega (arith, hex_length s)

hex_append : (s t : Octets) → hex (s ++ t) ≡ hex s ++ hex t
unfolding hex
hex_append [] t = refl
hex_append (c ∷ s) t = ap (λ (r : Octets). hex_digit (c / 16) ∷ hex_digit (c % 16) ∷ r) (hex_append s t)

-- one octet more
pub hex_turn : (s out₀ out out' : Octets) (a i p p' h l : ℕ) → i < length s → a + 2 * length s ≤ length out₀
    → h ≡ hex_digit (get_or s i 0 / 16) → l ≡ hex_digit (get_or s i 0 % 16)
    → Wrote out₀ a (hex (take i s)) out p → Wrote out p (h ∷ l ∷ []) out' p' → Wrote out₀ a (hex (take (i + 1) s)) out' p'
unfolding hex
hex_turn s out₀ out out' a i p p' h l q room eh el w x =
    let t : hex (take (i + 1) s) ≡ hex (take i s) ++ (h ∷ l ∷ []) = rw (add-one, take-suc s i 0 q, hex_append (take i s) (get_or s i 0 ∷ []), eh, el) in
    let n : length (hex (take i s)) ≤ 2 * i = omega (arith, hex_length (take i s), length-take i s) in
    rw t (wrote_more w x (omega arith))
