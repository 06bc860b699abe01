-- What the drill comes to, case by case: the two sizes, the reading, more than one key, and the search; what the search finds is always
-- shown.
use mathlib.Core.Path.{◌≡◌, refl}
use mathlib.Core.Bool.{Bool, true, false, cond, ◌&&◌}
use mathlib.Core.List.{List, [], ◌∷◌}
use mathlib.Core.Logic.{◌⊎◌, inl, inr}
use mathlib.Core.Option.{Option, none, some}
use Prim.Native.Nat.{ℕ, suc, ◌<◌}
use native.Mathlib.Omega.{arith}
use borrow.Author.Tests.{eqb-true, eqb-false, lt-ltb}
use lib.Dec.{eqb}
use lib.ListN.{length}
use Rattle.answer.specs.Refusals.{size, more_codes}
use Rattle.octets.specs.Order.{Octets}
use Rattle.attester.specs.Extract.{extracted}
use Rattle.codes.specs.Text.{Reading, accepted, reading}
use Rattle.codes.specs.Text as text
use Rattle.contradiction.specs.Trial.{first_alike}
use Rattle.contradiction.specs.Drill.{Drilling, number, no_number, refused, tried, drilled, drilling}
use Rattle.contradiction.proofs.FirstLaws.{first_is_first}
use Rattle.contradiction.proofs.ReadLaws.{read_many, read_sized}
use Rattle.contradiction.proofs.ShownLaws.{pair, handed_shows}

module _ (s : Octets) (bound a b : ℕ) where
  -- with buffers of a and b octets
  pub data Comes : Drilling → Type 0 where
    wrong_size : (a ≡ 85 → ⊥) ⊎ (b ≡ 85 → ⊥) → Comes (refused size 0)
    wrong_text : {m p : ℕ} → reading 60000 s ≡ text.refused m p → Comes (refused m p)
    more_than_one : (ks : List Octets) → reading 60000 s ≡ accepted ks → 1 < length ks → Comes (refused more_codes 2)
    nothing : (k : Octets) → reading 60000 s ≡ accepted (k ∷ []) → first_alike k bound 0 ≡ none → Comes no_number
    shown : (k : Octets) (n : ℕ) → a ≡ 85 → b ≡ 85 → reading 60000 s ≡ accepted (k ∷ []) → first_alike k bound 0 ≡ some n
        → Comes (number n (extracted (pair k n)))

  module _ (ha : a ≡ 85) (hb : b ≡ 85) where
    comes_tried : (k : Octets) → reading 60000 s ≡ accepted (k ∷ []) → (o : Option ℕ) → first_alike k bound 0 ≡ o → Comes (tried k o)
    unfolding tried
    comes_tried k e none f = nothing k e f
    comes_tried k e (some n) f =
        let right = first_is_first k bound in
        rw (handed_shows k (read_sized s k e) n (right.found_unlisted n f) (right.found_alike n f)) (shown k n ha hb e f)

    comes_drilled : (q : Reading) → reading 60000 s ≡ q → Comes (drilled bound q)
    unfolding drilled
    comes_drilled (text.refused m p) e = wrong_text e
    comes_drilled (accepted []) e = absurd (omega (arith, read_many s [] e))
    comes_drilled (accepted (k ∷ [])) e = comes_tried k e (first_alike k bound 0) refl
    comes_drilled (accepted (k ∷ j ∷ ks)) e =
        rw (lt-ltb 1 (suc (suc (length ks))) (omega arith)) (more_than_one (k ∷ j ∷ ks) e (omega arith))

  pub comes : Comes (drilling s bound a b)
  unfolding drilling
  comes = go (eqb a 85) (eqb b 85) refl refl
    where
      go : (t u : Bool) → eqb a 85 ≡ t → eqb b 85 ≡ u → Comes (cond (t && u) (drilled bound (reading 60000 s)) (refused size 0))
      go true true p q = comes_drilled (eqb-true a 85 p) (eqb-true b 85 q) (reading 60000 s) refl
      go true false p q = wrong_size (inr (eqb-false b 85 q))
      go false u p q = wrong_size (inl (eqb-false a 85 p))
