-- The drill's answer: its number is that of what it says, and no two answers say the same.
use mathlib.Core.Path.{◌≡◌, refl, ap}
use Prim.Native.Nat.{ℕ}
use native.Mathlib.Omega.{arith}
use Rattle.std.specs.Prelude.{Option, Some, None, Result, Ok, Err}
use Rattle.answer.specs.declared.Refusal.{Refusal}
use Rattle.answer.specs.Answer as answer
use Rattle.answer.specs.Answer.{packed}
use Rattle.answer.specs.Said.{found_number, packed_by}
use Rattle.answer.proofs.SaidLaws.{same_refusal}
use Rattle.contradiction.specs.Outcome.{Refused, said_found, OutcomesTell}
use Rattle.contradiction.specs.Drill.{drill_number, drill_value, drill_packed}

pub found_packed : (r : Result (Option ℕ) Refusal) → packed_by found_number r ≡ drill_packed (said_found r)
found_packed (Ok (Some n)) = omega arith
found_packed (Ok None) = omega arith
found_packed (Err r) = omega arith

-- a refusal of any number, as `pack_refused` gives it
pub refused_packed : (m p : ℕ) → packed (answer.Refused m p) ≡ drill_packed (Refused m p)
refused_packed m p = omega arith

pub outcomes_tell : OutcomesTell
outcomes_tell (Ok (Some n)) (Ok (Some m)) e = ap (λ q. Ok (Some q)) (ap drill_value e)
outcomes_tell (Ok (Some n)) (Ok None) e = cc
outcomes_tell (Ok (Some n)) (Err s) e = cc
outcomes_tell (Ok None) (Ok (Some m)) e = cc
outcomes_tell (Ok None) (Ok None) e = refl
outcomes_tell (Ok None) (Err s) e = cc
outcomes_tell (Err r) (Ok (Some m)) e = cc
outcomes_tell (Err r) (Ok None) e = cc
outcomes_tell (Err r) (Err s) e = ap Err (same_refusal r s (ap drill_number e) (ap drill_value e))
