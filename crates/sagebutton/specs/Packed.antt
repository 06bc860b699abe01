-- What an exported function promises: the number that stands for an answer which meets the promise. And `NumbersTell`: whatever a
-- promise permits, its number has the bits that the header says, and tells the answer. Proved in `proofs/Packed.antt`.
use Rattle.std.specs.Prelude.{◌≡◌, cond, ℕ, ◌/◌, ◌%◌, ◌^◌, ◌<◌, eqb}
use Rattle.answer.specs.Answer.{Answer, Done, Refused, number, value, packed, verdict_number, present_number, verdict_value, verdict_packed}
use Rattle.answer.specs.Verdict.{Verdict}
use Rattle.answer.specs.Verdict as verdict
use Rattle.octets.specs.Order.{Octets}
use Rattle.sha256.specs.Hash.{Hashed}
use Rattle.codes.specs.Read.{Read}
use Rattle.tree.specs.Digest.{Digested}
use Rattle.attestation.specs.Attest.{Attested}
use Rattle.attestation.specs.Verify.{Verified}
use Rattle.extractor.specs.Extract.{Extracted}
use Rattle.contradiction.specs.Outcome.{Outcome}
use Rattle.contradiction.specs.Outcome as outcome
use Rattle.contradiction.specs.Drill.{Drilled, drill_number, drill_none, drill_value, drill_packed}

-- r is the number, by `pack`, of some answer that meets the promise
pub record Packed {A : Type 0} (pack : A → ℕ) (Meets : A → Type 0) (r : ℕ) : Type 0 where
  pub told : A
  pub meets : Meets told
  pub is : r ≡ pack told

-- The bits of an answer's number r, as the header says: 0 to 31 the value or place, 32 to 47 zero, or 1 if there is none of what was
-- looked for, from 48 on the refusal.
pub record Bits (r refusal none value-or-place : ℕ) : Type 0 where
  pub low : r % 2 ^ 32 ≡ value-or-place
  pub middle : r / 2 ^ 32 % 2 ^ 16 ≡ none
  pub high : r / 2 ^ 48 ≡ refusal

-- the call was accepted: it answers something
abbrev pub Accepted : Answer → Type 0
Accepted (Done n) = Unit {0}
Accepted (Refused m p) = ⊥

-- it says Present or Absent
abbrev pub VerdictAccepted : Verdict → Type 0
VerdictAccepted verdict.Present = Unit {0}
VerdictAccepted verdict.Absent = Unit {0}
VerdictAccepted (verdict.Refused m p) = ⊥

-- it found a number, or none
abbrev pub DrillAccepted : Outcome → Type 0
DrillAccepted (outcome.Found n) = Unit {0}
DrillAccepted outcome.None = Unit {0}
DrillAccepted (outcome.Refused m p) = ⊥

-- the answer that a caller reads from a number: accepted if bits 48 to 63 are 0, and else refused
unfoldable pub unpacked : ℕ → Answer
unpacked r = cond (eqb (r / 2 ^ 48) 0) (Done (r % 2 ^ 32)) (Refused (r / 2 ^ 48) (r % 2 ^ 32))

-- the verdict that a caller reads
unfoldable pub unpacked_verdict : ℕ → Verdict
unpacked_verdict r =
    cond (eqb (r / 2 ^ 48) 0)
    (cond (eqb (r % 2 ^ 32) present_number) verdict.Present verdict.Absent)
    (verdict.Refused (r / 2 ^ 48) (r % 2 ^ 32))

-- the drill's outcome
unfoldable pub unpacked_drill : ℕ → Outcome
unpacked_drill r =
    cond (eqb (r / 2 ^ 48) 0)
    (cond (eqb (r / 2 ^ 32 % 2 ^ 16) 0) (outcome.Found (r % 2 ^ 32)) outcome.None)
    (outcome.Refused (r / 2 ^ 48) (r % 2 ^ 32))

-- The number r has 64 bits, those of the answer a; bits 48 to 63 are 0 if and only if the call was accepted; and who reads r reads a.
pub record Tells {A : Type 0} (number none value : A → ℕ) (Accepted : A → Type 0) (unpack : ℕ → A) (r : ℕ) (a : A) : Type 0 where
  pub fits : r < 2 ^ 64
  pub bits : Bits r (number a) (none a) (value a)
  pub zero_if_accepted : Accepted a → r / 2 ^ 48 ≡ 0
  pub accepted_if_zero : r / 2 ^ 48 ≡ 0 → Accepted a
  pub exactly : a ≡ unpack r

-- every number that an export with such a promise may answer tells the answer; so of verdicts, and of the drill's outcomes
abbrev pub AnswersTold : (Answer → Type 0) → Type 0
AnswersTold Meets = (r : ℕ) (p : Packed packed Meets r) → Tells number (λ a. 0) value Accepted unpacked r p.told

abbrev pub VerdictsTold : (Verdict → Type 0) → Type 0
VerdictsTold Meets =
    (r : ℕ) (p : Packed verdict_packed Meets r) → Tells verdict_number (λ v. 0) verdict_value VerdictAccepted unpacked_verdict r p.told

abbrev pub OutcomesTold : (Outcome → Type 0) → Type 0
OutcomesTold Meets =
    (r : ℕ) (p : Packed drill_packed Meets r) → Tells drill_number drill_none drill_value DrillAccepted unpacked_drill r p.told

-- each export; the drill's bound has 32 bits
pub record NumbersTell : Type 0 where
  pub hash : (msg out out' : Octets) → AnswersTold (λ a. Hashed msg out a out')
  pub read_list : (text out out' : Octets) → AnswersTold (λ a. Read text out a out')
  pub digest : (profile : ℕ) (keys out out' : Octets) → AnswersTold (λ a. Digested profile keys out a out')
  pub attest : (profile : ℕ) (x keys out out' : Octets) → AnswersTold (λ a. Attested profile x keys out a out')
  pub verify : (profile : ℕ) (x d a : Octets) → VerdictsTold (Verified profile x d a)
  pub extract : (profile : ℕ) (x d a b out₁ out₂ out₁' out₂' : Octets) → AnswersTold (λ r. Extracted profile x d a b out₁ out₂ r out₁' out₂')
  pub drill : (text : Octets) (bound : ℕ) (out₁ out₂ out₁' out₂' : Octets) → bound < 2 ^ 32
      → OutcomesTold (λ r. Drilled text bound out₁ out₂ r out₁' out₂')
