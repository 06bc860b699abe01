-- What a text is read as: reading skips nothing, so each key is a code's, and a code's key does not begin with 0.
use mathlib.Core.Path.{◌≡◌, sym, ap, ◌∙◌}
use mathlib.Core.Bool.{true}
use mathlib.Core.List.{List, [], ◌∷◌}
use Prim.Native.Nat.{ℕ, ◌^◌, ◌<◌}
use native.Mathlib.Omega.{arith}
use lib.ListN.{length, length-map}
use Rattle.octets.specs.Order.{Octets}
use Rattle.codes.specs.Code.{is_code, key_of}
use Rattle.codes.specs.Text.{accepted, reading}
use Rattle.codes.specs.Writing.{code_of, all_codes}
use Rattle.codes.proofs.Tests.{both}
use Rattle.codes.proofs.CodeLaws.{key_of_length}
use Rattle.codes.proofs.TextLaws.{Code, code_parts}
use Rattle.codes.proofs.NothingSkipped.{nothing_skipped}
use Rattle.contradiction.specs.Trial.{number_key}
use Rattle.contradiction.specs.Shows.{NoCodeIsANumber}
use Rattle.contradiction.proofs.NumberLaws.{small_octets}

pub read_many : (s : Octets) (ks : List Octets) → reading 60000 s ≡ accepted ks → 0 < length ks
read_many s ks e = rw length-map at (nothing_skipped 60000 s ks e).listing.some_codes

module _ (s k : Octets) (e : reading 60000 s ≡ accepted (k ∷ [])) where
  its_code : Code (code_of k)
  unfolding all_codes
  its_code = code_parts (code_of k) (both (is_code (code_of k)) true (nothing_skipped 60000 s (k ∷ []) e).listing.codes).0

  pub read_sized : length k ≡ 20
  read_sized =
      let i : key_of (code_of k) ≡ k = cc (nothing_skipped 60000 s (k ∷ []) e).its_keys in
      ap length (sym i) ∙ key_of_length (code_of k) its_code.few

number_no_code : (n : ℕ) → n < 2 ^ 32 → code_of (number_key n) ≡ []
unfolding code_of
number_no_code n h = rw (small_octets n 16 h)

pub no_code_is_a_number : NoCodeIsANumber
no_code_is_a_number s k e n h q =
    let z : code_of k ≡ [] = rw q at (number_no_code n h) in
    omega (arith, rw z at (its_code s k e).some_octets)
