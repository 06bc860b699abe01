-- Contradictions of the drill, each from two values of SHA-256: the records of a code and of a number have hashes whose first 2 octets
-- agree, so the two lists of one key have one digest in the drill; that the verdicts then contradict each other is proved with the drill.
use mathlib.Core.Path.{◌≡◌, refl, sym, ap, ◌∙◌}
use mathlib.Core.Bool.{true}
use mathlib.Core.List.{[], ◌∷◌}
use mathlib.Core.Logic.{inr}
use Prim.Native.Nat.{ℕ}
use native.Mathlib.Omega.{arith}
use lib.ListN.{length, get_or}
use Rattle.answer.specs.Verdict.{Present, Absent}
use Rattle.answer.specs.Verdict as verdicts
use Rattle.octets.specs.Order.{Octets}
use Rattle.octets.proofs.OrderLaws.{same_refl}
use Rattle.sha256.specs.Fips180.{octets, sha256}
use Rattle.profile.specs.Profile.{drill, short, label}
use Rattle.profile.proofs.ProfileLaws.{label_drill, drill_known, in_known}
use Rattle.attester.specs.Label.{digest}
use Rattle.attester.specs.Verify.{verify}
use Rattle.attester.specs.Attestation.{attestation}
use Rattle.codes.specs.Code.{key_of}
use Rattle.tree.specs.Edition.{width}
use Rattle.attestation.specs.Verify.{verdict_of, Verified}
use Rattle.examples.specs.F.{code_1_1, code_3_4}
use Rattle.examples.specs.Values.{lone_record, number}
use Rattle.examples.proofs.Values.{values}
use Rattle.contradiction.specs.Trial.{alike}
use Rattle.contradiction.proofs.OneNodeLaws.{one_digest}
use Rattle.contradiction.proofs.ShownLaws.{judged_absent, judged_present}
use Rattle.sagebutton.specs.Demand3.{ContradictsInDrill, DrillContradicts}

-- the drill's digest of the list of one key, from the SHA-256 of its record
one_label : (k h : Octets) → sha256 (lone_record k) ≡ h → digest (label drill) (k ∷ []) ≡ short h
one_label k h e = one_digest (label drill) k ∙ label_drill (lone_record k) ∙ ap short e

module _ (k : Octets) (sized : length k ≡ 20) (n : ℕ) (other : number n ≡ k → ⊥)
    (f g : Octets) (code_is : sha256 (lone_record k) ≡ f) (number_is : sha256 (lone_record (number n)) ≡ g) (agree : short g ≡ short f) where
  abbrev d : Octets
  d = digest (label drill) (k ∷ [])

  are_alike : alike k n ≡ true
  unfolding alike
  are_alike =
      let one_digest_of_both : digest (label drill) (number n ∷ []) ≡ d = one_label (number n) g number_is ∙ agree ∙ sym (one_label k f code_is) in
      rw one_digest_of_both (same_refl d)

  judged : (a : Octets) → Verified drill (number n) d a (verdict_of (verify (label drill) width (number n) d a))
  judged a = record { answered = sym (in_known verdicts.Refused drill (verdict_of (verify (label drill) width (number n) d a)) drill_known) }

  absent : Verified drill (number n) d (attestation (label drill) (k ∷ []) (number n)) Absent
  unfolding verdict_of
  absent = rw (judged_absent k sized n other are_alike) at (judged (attestation (label drill) (k ∷ []) (number n)))

  present : Verified drill (number n) d (attestation (label drill) (number n ∷ []) (number n)) Present
  unfolding verdict_of
  present = rw (judged_present k sized n other are_alike) at (judged (attestation (label drill) (number n ∷ []) (number n)))

  contradicts : ContradictsInDrill k n
  contradicts = inr (absent, present)

-- a code begins with a character, these numbers with a zero
pub code_is_no_number : (k : Octets) (n : ℕ) → get_or (number n) 0 0 ≡ 0 → (get_or k 0 0 ≡ 0 → ⊥) → number n ≡ k → ⊥
code_is_no_number k n z c e = c (ap (λ s. get_or s 0 0) (sym e) ∙ z)

pub drill_contradicts : DrillContradicts
unfolding key_of octets
drill_contradicts = record {
  of_3_4 =
      contradicts (key_of code_3_4) refl 16401 (code_is_no_number (key_of code_3_4) 16401 refl λ e. omega (arith, e))
      _ _ values.lone_3_4 values.lone_16401 refl;
  of_1_1 =
      contradicts (key_of code_1_1) refl 78159 (code_is_no_number (key_of code_1_1) 78159 refl λ e. omega (arith, e))
      _ _ values.lone_1_1 values.lone_78159 refl;
}
