-- What an answer says: document 01's number and value for each case, and what a lent buffer then holds.
use Rattle.std.specs.Prelude.{List, ◌++◌, ℕ, ◌+◌, ◌*◌, ◌^◌, length, drop}
use Rattle.answer.specs.Verdict.{Verdict}
use Rattle.answer.specs.Verdict as verdict

-- what an accepted call counts, or a refusal's number and place
pub data Answer : Type 0 where
  Done : ℕ → Answer
  Refused : ℕ → ℕ → Answer

-- 01, "Numbers a caller can meet": the refusal's number; 0 where there is none
abbrev pub number : Answer → ℕ
number (Done n) = 0
number (Refused m p) = m

-- what an accepted call answers, or the refusal's place
abbrev pub value : Answer → ℕ
value (Done n) = n
value (Refused m p) = p

-- the C face's one number: bits 0 to 31 the value or the place, bits 48 to 63 the refusal
abbrev pub packed : Answer → ℕ
packed a = number a * 2 ^ 48 + value a

-- 01: "A refusal returns number and place and writes nothing." What an accepted call writes stands at the buffer's front; the rest stays.
unfoldable pub written : Answer → List ℕ → List ℕ → List ℕ
written (Done n) s out = s ++ drop (length s) out
written (Refused m p) s out = out

-- 01, "Verdict": a refusal's number; 0 where the attestation is accepted
abbrev pub verdict_number : Verdict → ℕ
verdict_number verdict.Present = 0
verdict_number verdict.Absent = 0
verdict_number (verdict.Refused m p) = m

-- the numbers of the two verdicts: above every place that a refused one can have, 1,731 at most
abbrev pub present_number : ℕ
present_number = 65537

abbrev pub absent_number : ℕ
absent_number = 65536

-- 01, "Verdict", step 6: Present or Absent, by its number; or the refusal's place
abbrev pub verdict_value : Verdict → ℕ
verdict_value verdict.Present = present_number
verdict_value verdict.Absent = absent_number
verdict_value (verdict.Refused m p) = p

-- the C face's one number, as for an answer
abbrev pub verdict_packed : Verdict → ℕ
verdict_packed v = verdict_number v * 2 ^ 48 + verdict_value v
