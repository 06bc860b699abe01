-- The ends of `extract`, in the code's order: the sizes, each verdict as it was kept, the same verdict twice, and the pair that the
-- walk found.
use mathlib.Core.Path.{◌≡◌, refl, sym, ap, ◌∙◌}
use mathlib.Core.Bool.{Bool, true, false, ◌&&◌}
use mathlib.Core.Option.{some}
use Prim.Native.Nat.{ℕ}
use borrow.Author.Tests.{eqb-true}
use lib.Dec.{eqb}
use lib.ListN.{length}
use Rattle.std.specs.Prelude.{Ok, Err}
use Rattle.answer.specs.Answer.{Answer, Done, Refused, written}
use Rattle.answer.specs.Refusals.{size, no_contradiction, unknown_profile}
use Rattle.answer.specs.Said.{number_of, said_verdict}
use Rattle.answer.specs.Verdict as verdicts
use Rattle.answer.specs.declared.Refusal.{Refusal}
use Rattle.answer.specs.declared.Verdict.{Verdict}
use Rattle.answer.proofs.WrittenLaws.{written_whole}
use Rattle.octets.specs.Order.{Octets}
use Rattle.profile.specs.declared.Profile.{Profile}
use Rattle.profile.specs.Named.{number_of_profile}
use Rattle.profile.specs.Profile.{known, label, in_profile}
use Rattle.profile.proofs.ProfileLaws.{label_length, named_known, in_known, in_unknown}
use Rattle.attester.specs.Path.{down}
use Rattle.attester.specs.Verdict.{Accepted, root_record}
use Rattle.attester.specs.Form.{formed, path_read}
use Rattle.attester.specs.Form as forms
use Rattle.attester.specs.Verify.{verify}
use Rattle.attester.specs.Walk.{walk}
use Rattle.attester.specs.Extract.{refused, sized, extract}
use Rattle.attester.specs.Demand3.{Walked}
use Rattle.attester.proofs.FormLaws.{and_both}
use Rattle.attester.proofs.VerifyLaws.{verify_accepted}
use Rattle.attester.proofs.Demand3.{demand_3, verdicts_tell_paths}
use Rattle.attester.proofs.ExtractLaws.{extract_unsized, extract_first, extract_second, extract_same, extract_found}
use Rattle.tree.specs.Edition.{width}
use Rattle.attestation.specs.Shown.{Formed, shown}
use Rattle.attestation.specs.Verify.{verdict_of, Verified}
use Rattle.extractor.specs.Told.{told}
use Rattle.extractor.specs.Walk.{pair}
use Rattle.extractor.specs.Extract.{extraction_answer, first_record, second_record, Extracted}
use Rattle.extractor.proofs.ToldLaws.{judgement, accepted, judgement_tells, told_accepted, told_refused}

-- right sizes are those of the buffers
pub buffers : (x d o₁ o₂ : Octets) → sized width (length x) (length d) (length o₁) (length o₂) ≡ true → (length o₁ ≡ 85) × (length o₂ ≡ 85)
unfolding sized
buffers x d o₁ o₂ e =
    let f = (and_both (eqb (length x) 20) (eqb (length d) 32 && (eqb (length o₁) 85 && eqb (length o₂) 85)) e).1 in
    let g = (and_both (eqb (length d) 32) (eqb (length o₁) 85 && eqb (length o₂) 85) f).1 in
    let h = and_both (eqb (length o₁) 85) (eqb (length o₂) 85) g in
    (eqb-true (length o₁) 85 h.0, eqb-true (length o₂) 85 h.1)

-- what is known of two attestations that contradict each other
pub record Contradicting (named : Profile) (x a b : Octets) : Type 0 where
  pub first_formed : ∥ Formed a ∥₁
  pub second_formed : ∥ Formed b ∥₁
  pub walked : Walked (label (number_of_profile named)) x (shown a) (shown b)

-- octets that are accepted have the form
accepted_formed : (H : Octets → Octets) (x d a : Octets) → Accepted (verify H width x d a) → Formed a
unfolding forms.shown
accepted_formed H x d a h =
    let r = (verify_accepted H width x d a h).reads in
    r ∙ ap formed (sym (ap path_read r))

pub extracted_unknown : (profile : ℕ) (x d a b o₁ o₂ : Octets) → known profile ≡ false → Extracted profile x d a b o₁ o₂ (Refused unknown_profile 0) o₁ o₂
unfolding written
extracted_unknown profile x d a b o₁ o₂ k =
    record {
      answered = sym (in_unknown Refused profile (extraction_answer (extract (label profile) width x d a b (length o₁) (length o₂))) k);
      first_left = refl;
      second_left = refl;
    }

module _ (profile : ℕ) (named : Profile) (is : profile ≡ number_of_profile named) (x d a b o₁ o₂ : Octets) where
  known_profile : known profile ≡ true
  known_profile = rw is (named_known named)

  -- in a known profile the answer and the verdicts are document 01's
  answers : {r : Answer} → r ≡ extraction_answer (extract (label profile) width x d a b (length o₁) (length o₂))
      → r ≡ in_profile Refused profile (extraction_answer (extract (label profile) width x d a b (length o₁) (length o₂)))
  answers e = e ∙ sym (in_known Refused profile (extraction_answer (extract (label profile) width x d a b (length o₁) (length o₂))) known_profile)

  judged : (c : Octets) {v : verdicts.Verdict} → Verified profile x d c v → v ≡ verdict_of (verify (label profile) width x d c)
  judged c e = e.answered ∙ in_known verdicts.Refused profile (verdict_of (verify (label profile) width x d c)) known_profile

  -- what a refusal leaves
  refuses : {m p : ℕ} → extract (label profile) width x d a b (length o₁) (length o₂) ≡ refused m p → Extracted profile x d a b o₁ o₂ (Refused m p) o₁ o₂
  unfolding extraction_answer written
  refuses e = record { answered = answers (rw e); first_left = refl; second_left = refl }

  module _ {z : Bool} (ez : z ≡ sized width (length x) (length d) (length o₁) (length o₂)) where
    pub extracted_unsized : z ≡ false → Extracted profile x d a b o₁ o₂ (Refused size 0) o₁ o₂
    extracted_unsized e = refuses (extract_unsized (label profile) width x d a b (length o₁) (length o₂) (sym ez ∙ e))

  module _ (sizes : sized width (length x) (length d) (length o₁) (length o₂) ≡ true) {v : verdicts.Verdict} (ev : Verified profile x d a v) where
    pub extracted_first : (r : Refusal) → said_verdict (Err r) ≡ told 1 v → Extracted profile x d a b o₁ o₂ (Refused (number_of r.reason) r.place) o₁ o₂
    extracted_first r e =
        let g = told_refused 1 r (verify (label profile) width x d a) (e ∙ ap (told 1) (judged a ev)) in
        rw g.which_one (refuses (extract_first (label profile) width x d a b (length o₁) (length o₂) sizes (number_of r.reason) g.place g.is))

    module _ (p : Verdict) (ep : said_verdict (Ok p) ≡ told 1 v) {u : verdicts.Verdict} (eu : Verified profile x d b u) where
      first_is : verify (label profile) width x d a ≡ judgement p
      first_is = told_accepted 1 p (verify (label profile) width x d a) (ep ∙ ap (told 1) (judged a ev))

      first_accepted : Accepted (verify (label profile) width x d a)
      first_accepted = rw first_is (accepted p)

      pub extracted_second : (r : Refusal) → said_verdict (Err r) ≡ told 2 u → Extracted profile x d a b o₁ o₂ (Refused (number_of r.reason) r.place) o₁ o₂
      extracted_second r e =
          let g = told_refused 2 r (verify (label profile) width x d b) (e ∙ ap (told 2) (judged b eu)) in
          rw g.which_one (refuses (extract_second (label profile) width x d a b (length o₁) (length o₂) sizes first_accepted (number_of r.reason) g.place g.is))

      module _ (q : Verdict) (eq : said_verdict (Ok q) ≡ told 2 u) where
        second_is : verify (label profile) width x d b ≡ judgement q
        second_is = told_accepted 2 q (verify (label profile) width x d b) (eq ∙ ap (told 2) (judged b eu))

        pub extracted_same : p ≡ q → Extracted profile x d a b o₁ o₂ (Refused no_contradiction 0) o₁ o₂
        extracted_same e =
            refuses (extract_same (label profile) width x d a b (length o₁) (length o₂) sizes first_accepted (first_is ∙ ap judgement e ∙ sym second_is))

        module _ (differ : p ≡ q → ⊥) where
          second_accepted : Accepted (verify (label profile) width x d b)
          second_accepted = rw second_is (accepted q)

          verdicts_differ : verify (label profile) width x d a ≡ verify (label profile) width x d b → ⊥
          verdicts_differ e = differ (judgement_tells p q (sym first_is ∙ e ∙ second_is))

          pub contradicting : Contradicting named x a b
          contradicting = record {
            first_formed = ∣ accepted_formed (label profile) x d a first_accepted ∣₁;
            second_formed = ∣ accepted_formed (label profile) x d b second_accepted ∣₁;
            walked = rw (← is) (demand_3 (label profile) width (label_length profile) x d a b first_accepted second_accepted
                (verdicts_tell_paths (label profile) width x d a b first_accepted second_accepted verdicts_differ));
          }

          -- both records are written whole
          pub extracted_done : {i : ℕ} {r₁ r₂ o₁' o₂' : Octets}
              → walk (label (number_of_profile named)) x (shown a) (shown b) ≡ some (pair (label (number_of_profile named)) x (shown a) (shown b) i)
              → r₁ ≡ root_record (label (number_of_profile named)) x (down i (shown a)) → r₂ ≡ root_record (label (number_of_profile named)) x (down i (shown b))
              → o₁' ≡ r₁ → o₂' ≡ r₂ → length r₁ ≡ length o₁ → length r₂ ≡ length o₂ → Extracted profile x d a b o₁ o₂ (Done i) o₁' o₂'
          unfolding extraction_answer first_record second_record
          extracted_done {i} {r₁} {r₂} w g h f s m n =
              let found =
              extract_found (label profile) width x d a b (length o₁) (length o₂) sizes first_accepted second_accepted verdicts_differ
              (pair (label profile) x (shown a) (shown b) i) (rw is w) in
              record {
                answered = answers (rw found);
                first_left = rw (found, is, ← g) (f ∙ sym (written_whole i r₁ o₁ m));
                second_left = rw (found, is, ← h) (s ∙ sym (written_whole i r₂ o₂ n));
              }
