-- The ends of `verify`: each refusal of steps 1 and 2, and the judgement on octets that have the form.
use mathlib.Core.Path.{◌≡◌, refl, sym, ap, ◌∙◌}
use mathlib.Core.Bool.{true, false}
use mathlib.Core.Logic.{◌⊎◌, inl, inr}
use Prim.Native.Nat.{ℕ}
use lib.ListN.{length}
use Rattle.answer.specs.Answer.{Answer, Done}
use Rattle.answer.specs.Answer as answer
use Rattle.answer.specs.Verdict.{Verdict, Refused}
use Rattle.answer.specs.Refusals.{size, unknown_profile}
use Rattle.answer.specs.Refusals as refusal
use Rattle.octets.specs.Order.{Octets}
use Rattle.profile.specs.Profile.{known, label}
use Rattle.profile.proofs.ProfileLaws.{in_known, in_unknown}
use Rattle.attester.specs.Verdict.{Judgement, refused, judge}
use Rattle.attester.specs.Form.{formed, ended, spoilt, sections, path_read, form}
use Rattle.attester.specs.Form as form
use Rattle.attester.specs.Verify.{verify}
use Rattle.attester.proofs.SectionLaws.{form_formed}
use Rattle.attester.proofs.VerifyLaws.{verify_key_size, verify_digest_size, verify_ended, verify_spoilt, verify_formed}
use Rattle.tree.specs.Edition.{width}
use Rattle.attestation.specs.Form.{read_answer}
use Rattle.attestation.specs.Shown.{shown, Formed}
use Rattle.attestation.specs.Verify.{verdict_of, Verified}
use Rattle.attestation.proofs.FormLaws.{form_done, form_refused}

pub verified_unknown : (profile : ℕ) (x d a : Octets) → known profile ≡ false → Verified profile x d a (Refused unknown_profile 0)
verified_unknown profile x d a k = record { answered = sym (in_unknown Refused profile (verdict_of (verify (label profile) width x d a)) k) }

module _ (profile : ℕ) (known_profile : known profile ≡ true) (x d a : Octets) where
  -- in a known profile the verdict is document 01's
  judges : (j : Judgement) {v : Verdict} → verify (label profile) width x d a ≡ j → v ≡ verdict_of j → Verified profile x d a v
  judges j e g =
      record {
        answered = g ∙ ap verdict_of (sym e) ∙ sym (in_known Refused profile (verdict_of (verify (label profile) width x d a)) known_profile);
      }

  pub verified_key_size : (length x ≡ 20 → ⊥) → Verified profile x d a (Refused size 0)
  unfolding verdict_of
  verified_key_size n = judges (refused size 0) (verify_key_size (label profile) width x d a n) refl

  module _ (n : length x ≡ 20) where
    pub verified_digest_size : (length d ≡ 32 → ⊥) → Verified profile x d a (Refused size 0)
    unfolding verdict_of
    verified_digest_size m = judges (refused size 0) (verify_digest_size (label profile) width x d a n m) refl

    module _ (m : length d ≡ 32) where
      pub verified_form : {r : Answer} → r ≡ read_answer (length a) (sections width a) → {k p : ℕ} → r ≡ answer.Refused k p → Verified profile x d a (Refused k p)
      unfolding verdict_of
      verified_form told {k} {p} e = let g = form_refused width a told e in go g.0 g.1
        where
          go : k ≡ refusal.form → (form width a ≡ ended p) ⊎ (form width a ≡ spoilt p) → Verified profile x d a (Refused k p)
          go g (inl f) = rw g (judges (refused refusal.form p) (verify_ended (label profile) width x d a n m p f) refl)
          go g (inr f) = rw g (judges (refused refusal.form p) (verify_spoilt (label profile) width x d a n m p f) refl)

      pub verified_judged : {v : Verdict} → Formed a → v ≡ verdict_of (judge (label profile) x d (shown a)) → Verified profile x d a v
      verified_judged f e = judges (judge (label profile) x d (shown a)) (verify_formed (label profile) width x d a n m (shown a) f) e

-- the answer `Done` says that the octets have the form
pub formed_done : (a : Octets) {r : Answer} {n : ℕ} → r ≡ read_answer (length a) (sections width a) → r ≡ Done n → Formed a
unfolding form.shown
formed_done a told e =
    let g = form_done width a told e in
    let f = form_formed width a g.0 g.1 g.2 in
    f ∙ ap formed (sym (ap path_read f))
