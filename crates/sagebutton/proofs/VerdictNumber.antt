-- A promise of `verify` is met by one verdict, whose value the low 32 bits are; and a refusal's value is its place, at most 1,731.
use mathlib.Core.Path.{◌≡◌, sym, ◌∙◌}
use Prim.Native.Nat.{ℕ, ◌%◌, ◌^◌}
use native.Mathlib.Omega.{arith}
use Rattle.answer.specs.Verdict.{Verdict, Present, Absent, Refused}
use Rattle.answer.specs.Answer.{present_number, absent_number, verdict_value, verdict_packed}
use Rattle.octets.specs.Order.{Octets}
use Rattle.attestation.specs.Verify.{Verified}
use Rattle.sagebutton.specs.Packed.{Packed}
use Rattle.sagebutton.specs.VerdictNumber.{Unmistakable, VerdictsUnmistakable}
use Rattle.sagebutton.proofs.Bounds.{bounds}
use Rattle.sagebutton.proofs.Packed.{numbers_tell}

module _ (profile : ℕ) (x d a : Octets) (r : ℕ) (k : Packed verdict_packed (Verified profile x d a) r) where
  -- the low 32 bits are the value of whatever verdict is permitted
  low : (v : Verdict) → Verified profile x d a v → r % 2 ^ 32 ≡ verdict_value v
  low v h =
      let same : k.told ≡ v = k.meets.answered ∙ sym h.answered in
      rw same at (numbers_tell.verify profile x d a r k).bits.low

  reads_present : (v : Verdict) → Verified profile x d a v → verdict_value v ≡ present_number → Verified profile x d a Present
  reads_present Present h e = h
  reads_present Absent h e = absurd (omega arith)
  reads_present (Refused m p) h e = absurd (omega (arith, (bounds.verify profile x d a).placed m p h))

  reads_absent : (v : Verdict) → Verified profile x d a v → verdict_value v ≡ absent_number → Verified profile x d a Absent
  reads_absent Present h e = absurd (omega arith)
  reads_absent Absent h e = h
  reads_absent (Refused m p) h e = absurd (omega (arith, (bounds.verify profile x d a).placed m p h))

  unmistakable : Unmistakable profile x d a r
  unmistakable = record {
    present_if = λ e. reads_present k.told k.meets (sym (low k.told k.meets) ∙ e);
    present_only_if = low Present;
    absent_if = λ e. reads_absent k.told k.meets (sym (low k.told k.meets) ∙ e);
    absent_only_if = low Absent;
    refused_not_present = λ m p h e. omega (arith, low (Refused m p) h, (bounds.verify profile x d a).placed m p h);
    refused_not_absent = λ m p h e. omega (arith, low (Refused m p) h, (bounds.verify profile x d a).placed m p h);
  }

pub verdicts_unmistakable : VerdictsUnmistakable
verdicts_unmistakable = unmistakable
