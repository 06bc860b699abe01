-- A verdict can't be mistaken for another, nor a refusal for a verdict, even by a caller who keeps only the low 32 bits of the number
-- and looks at nothing else. Proved in `proofs/VerdictNumber.antt`.
use Rattle.std.specs.Prelude.{◌≡◌, ℕ, ◌%◌, ◌^◌}
use Rattle.answer.specs.Verdict.{Present, Absent, Refused}
use Rattle.answer.specs.Answer.{present_number, absent_number, verdict_packed}
use Rattle.octets.specs.Order.{Octets}
use Rattle.attestation.specs.Verify.{Verified}
use Rattle.sagebutton.specs.Packed.{Packed}

-- the low 32 bits of r are 65,537 if and only if the verdict is Present, 65,536 if and only if it is Absent; of a refused one, neither
pub record Unmistakable (profile : ℕ) (x d a : Octets) (r : ℕ) : Type 0 where
  pub present_if : r % 2 ^ 32 ≡ present_number → Verified profile x d a Present
  pub present_only_if : Verified profile x d a Present → r % 2 ^ 32 ≡ present_number
  pub absent_if : r % 2 ^ 32 ≡ absent_number → Verified profile x d a Absent
  pub absent_only_if : Verified profile x d a Absent → r % 2 ^ 32 ≡ absent_number
  pub refused_not_present : (m p : ℕ) → Verified profile x d a (Refused m p) → r % 2 ^ 32 ≡ present_number → ⊥
  pub refused_not_absent : (m p : ℕ) → Verified profile x d a (Refused m p) → r % 2 ^ 32 ≡ absent_number → ⊥

-- every number that the export of `verify` may answer
abbrev pub VerdictsUnmistakable : Type 0
VerdictsUnmistakable =
    (profile : ℕ) (x d a : Octets) (r : ℕ) → Packed verdict_packed (Verified profile x d a) r → Unmistakable profile x d a r
