-- An unknown profile's answer is 17 by `in_profile`, and what a refusal leaves is the buffer.
use mathlib.Core.Path.{◌≡◌, ◌∙◌}
use mathlib.Core.Bool.{false}
use Prim.Native.Nat.{ℕ}
use lib.ListN.{length}
use Rattle.answer.specs.Answer.{Answer, Refused, written}
use Rattle.answer.specs.Verdict as verdict
use Rattle.octets.specs.Order.{Octets}
use Rattle.profile.specs.Profile.{known, label}
use Rattle.profile.proofs.ProfileLaws.{full_known, drill_known, known_numbers, label_full, label_drill, in_unknown}
use Rattle.attester.specs.Verify.{verify}
use Rattle.attester.specs.Extract.{extract}
use Rattle.tree.specs.Edition.{width, most}
use Rattle.tree.specs.Digest.{digest_answer}
use Rattle.attestation.specs.Attest.{attest_answer}
use Rattle.attestation.specs.Verify.{verdict_of}
use Rattle.extractor.specs.Extract.{extraction_answer}
use Rattle.sagebutton.specs.Profiles.{RefusedWith17, Profiles}

stays : {m p : ℕ} (s : Octets) {out out' : Octets} {r : Answer} → r ≡ Refused m p → out' ≡ written r s out → out' ≡ out
unfolding written
stays s e w = rw e at w

module _ (profile : ℕ) (k : known profile ≡ false) where
  refused_with_17 : RefusedWith17 profile
  refused_with_17 = record {
    digest = λ keys out r out' g.
        let e = g.answered ∙ in_unknown Refused profile (digest_answer width most keys (length out)) k in
        (e, stays _ e g.left);
    attest = λ x keys out r out' g.
        let e = g.answered ∙ in_unknown Refused profile (attest_answer (label profile) width most x keys (length out)) k in
        (e, stays _ e g.left);
    verify = λ x d a v g. g.answered ∙ in_unknown verdict.Refused profile (verdict_of (verify (label profile) width x d a)) k;
    extract = λ x d a b out₁ out₂ r out₁' out₂' g.
        let e = g.answered ∙ in_unknown Refused profile (extraction_answer (extract (label profile) width x d a b (length out₁) (length out₂))) k in
        (e, stays _ e g.first_left, stays _ e g.second_left);
  }

pub profiles : Profiles
profiles = record {
  full_known = full_known;
  drill_known = drill_known;
  no_other = known_numbers;
  full_label = label_full;
  drill_label = label_drill;
  others_refused = refused_with_17;
}
