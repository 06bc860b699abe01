-- By `Bounds` a value or place is below 2 ^ 32 and a refusal's number is of 1 to 17, so that the parts of a number do not meet, and a
-- refusal's high bits are not 0.
use mathlib.Core.Path.{◌≡◌, refl, ◌∙◌}
use Prim.Native.Nat.{ℕ, ◌+◌, ◌*◌, ◌^◌, ◌≤◌, ◌<◌}
use native.Mathlib.Omega.{arith}
use borrow.Author.Tests.{ne_eqb}
use Rattle.answer.specs.Answer.{Answer, Done, Refused, number, value, packed, verdict_number, verdict_value, verdict_packed}
use Rattle.answer.specs.Verdict.{Verdict}
use Rattle.answer.specs.Verdict as verdict
use Rattle.answer.specs.Refusals.{IsRefusal}
use Rattle.contradiction.specs.Outcome.{Outcome}
use Rattle.contradiction.specs.Outcome as outcome
use Rattle.contradiction.specs.Drill.{drill_number, drill_none, drill_value, drill_packed}
use Rattle.sagebutton.specs.Bounds.{RefusalsWithin, AnswersWithin}
use Rattle.sagebutton.specs.Packed.{Bits, Accepted, VerdictAccepted, DrillAccepted, unpacked, unpacked_verdict, unpacked_drill, Tells, AnswersTold, VerdictsTold, OutcomesTold, NumbersTell}
use Rattle.sagebutton.proofs.Bounds.{bounds}

-- What a number of three parts tells of an answer that was accepted, and of one that was refused

module _ {A : Type 0} (num none val : A → ℕ) (Acc : A → Type 0) (unpack : ℕ → A) (r : ℕ) (a : A)
    (is : r ≡ num a * 2 ^ 48 + none a * 2 ^ 32 + val a) (few : none a ≤ 1) (small : val a < 2 ^ 32)
    (read : Bits r (num a) (none a) (val a) → a ≡ unpack r) where
  parts : num a ≤ 17 → Bits r (num a) (none a) (val a)
  parts h = record { low = omega arith; middle = omega arith; high = omega arith }

  accepted_tells : num a ≡ 0 → Acc a → Tells num none val Acc unpack r a
  accepted_tells e t =
      let b = parts (omega arith) in
      record { fits = omega arith; bits = b; zero_if_accepted = λ u. b.high ∙ e; accepted_if_zero = λ z. t; exactly = read b }

  refused_tells : IsRefusal (num a) → (Acc a → ⊥) → Tells num none val Acc unpack r a
  refused_tells i n =
      let b = parts i.1 in
      record {
        fits = omega arith;
        bits = b;
        zero_if_accepted = λ u. absurd (n u);
        accepted_if_zero = λ z. absurd (omega (arith, b.high));
        exactly = read b;
      }

-- Each case of the three types of answers

module _ (v q : ℕ) {Meets : Answer → Type 0} (w : AnswersWithin v q Meets) (hv : v < 2 ^ 32) (hq : q < 2 ^ 32) where
  answer_tells : AnswersTold Meets
  unfolding unpacked
  answer_tells r k = go k.told k.meets k.is
    where
      go : (a : Answer) → Meets a → r ≡ packed a → Tells number (λ b. 0) value Accepted unpacked r a
      go (Done n) h e =
          accepted_tells number (λ b. 0) value Accepted unpacked r (Done n) (omega arith) (omega arith) (omega (arith, w.done n h))
          (λ b. rw (b.high, b.low)) refl tt
      go (Refused m p) h e =
          let i = w.refusals.numbered m p h in
          refused_tells number (λ b. 0) value Accepted unpacked r (Refused m p) (omega arith) (omega arith) (omega (arith, w.refusals.placed m p h))
          (λ b. rw (b.high, b.low, ne_eqb m 0 (λ z. omega arith))) i (λ t. t)

module _ (q : ℕ) {Meets : Verdict → Type 0} (w : RefusalsWithin q verdict.Refused Meets) (hq : q < 2 ^ 32) where
  verdict_tells : VerdictsTold Meets
  unfolding unpacked_verdict
  verdict_tells r k = go k.told k.meets k.is
    where
      go : (u : Verdict) → Meets u → r ≡ verdict_packed u → Tells verdict_number (λ u. 0) verdict_value VerdictAccepted unpacked_verdict r u
      go verdict.Present h e =
          accepted_tells verdict_number (λ u. 0) verdict_value VerdictAccepted unpacked_verdict r verdict.Present (omega arith) (omega arith) (omega arith)
          (λ b. rw (b.high, b.low)) refl tt
      go verdict.Absent h e =
          accepted_tells verdict_number (λ u. 0) verdict_value VerdictAccepted unpacked_verdict r verdict.Absent (omega arith) (omega arith) (omega arith)
          (λ b. rw (b.high, b.low)) refl tt
      go (verdict.Refused m p) h e =
          let i = w.numbered m p h in
          refused_tells verdict_number (λ u. 0) verdict_value VerdictAccepted unpacked_verdict r (verdict.Refused m p) (omega arith) (omega arith)
          (omega (arith, w.placed m p h)) (λ b. rw (b.high, b.low, ne_eqb m 0 (λ z. omega arith))) i (λ t. t)

module _ (n q : ℕ) {Meets : Outcome → Type 0} (found : (i : ℕ) → Meets (outcome.Found i) → i < n) (w : RefusalsWithin q outcome.Refused Meets)
    (hn : n < 2 ^ 32) (hq : q < 2 ^ 32) where
  outcome_tells : OutcomesTold Meets
  unfolding unpacked_drill
  outcome_tells r k = go k.told k.meets k.is
    where
      go : (o : Outcome) → Meets o → r ≡ drill_packed o → Tells drill_number drill_none drill_value DrillAccepted unpacked_drill r o
      go (outcome.Found i) h e =
          accepted_tells drill_number drill_none drill_value DrillAccepted unpacked_drill r (outcome.Found i) e (omega arith) (omega (arith, found i h))
          (λ b. rw (b.high, b.middle, b.low)) refl tt
      go outcome.None h e =
          accepted_tells drill_number drill_none drill_value DrillAccepted unpacked_drill r outcome.None e (omega arith) (omega arith)
          (λ b. rw (b.high, b.middle)) refl tt
      go (outcome.Refused m p) h e =
          let i = w.numbered m p h in
          refused_tells drill_number drill_none drill_value DrillAccepted unpacked_drill r (outcome.Refused m p) e (omega arith)
          (omega (arith, w.placed m p h)) (λ b. rw (b.high, b.low, ne_eqb m 0 (λ z. omega arith))) i (λ t. t)

pub numbers_tell : NumbersTell
numbers_tell = record {
  hash = λ msg out out'. answer_tells 65535 0 (bounds.hash msg out out') (omega arith) (omega arith);
  read_list = λ text out out'. answer_tells 3000 3003 (bounds.read_list text out out') (omega arith) (omega arith);
  digest = λ profile keys out out'. answer_tells 3000 2999 (bounds.digest profile keys out out') (omega arith) (omega arith);
  attest = λ profile x keys out out'. answer_tells 586 2999 (bounds.attest profile x keys out out') (omega arith) (omega arith);
  verify = λ profile x d a. verdict_tells 1731 (bounds.verify profile x d a) (omega arith);
  extract = λ profile x d a b out₁ out₂ out₁' out₂'.
      answer_tells 31 2 (bounds.extract profile x d a b out₁ out₂ out₁' out₂') (omega arith) (omega arith);
  drill = λ text bound out₁ out₂ out₁' out₂' small.
      outcome_tells bound 3003 (bounds.drill_found text bound out₁ out₂ out₁' out₂' small) (bounds.drill text bound out₁ out₂ out₁' out₂') small (omega arith);
}
