-- An unknown profile and steps 1 and 2 are refusals by their own laws; octets that have the form are judged.
use mathlib.Core.Path.{refl}
use Rattle.answer.proofs.HandedLaws.{handed_on}
use Rattle.profile.proofs.ProfileLaws.{named_known}
use Rattle.attestation.proofs.VerifyLaws.{verified_unknown, verified_key_size, verified_digest_size, verified_form, formed_done, verified_judged}
use Rattle.attestation.proofs.verify.Goals as goal

pub returns-in_err-profile : goal.returns-in_err-profile
returns-in_err-profile c =
    let a = c.args in
    rw (handed_on c.from_residual.result c.from_residual.ensures.1, c.in_err-profile.ensures.1)
    (verified_unknown a.profile a.key.now a.digest.now a.att.now c.in_err-profile.ensures.0)

pub returns-then-key-ne20 : goal.returns-then-key-ne20
returns-then-key-ne20 c =
    let a = c.args in
    rw (c.at.ensures, c.in_ok-profile.ensures) (elim c.then-key-ne20.branch [
      | goal.then-key-ne20-via-then-key-ne20 w ↦ verified_key_size _ (named_known c.in_ok-profile.profile) a.key.now a.digest.now a.att.now w.if-key-ne20.true
      | goal.then-key-ne20-via-else-key-ne20+then-digest-ne32 w ↦
          verified_digest_size _ (named_known c.in_ok-profile.profile) a.key.now a.digest.now a.att.now w.if-key-ne20.false w.if-digest-ne32.true
    ])

pub returns-in_err-form : goal.returns-in_err-form
returns-in_err-form c =
    let a = c.args in
    rw (handed_on c.from_residual-in_err-form.result c.from_residual-in_err-form.ensures.1, c.in_ok-profile.ensures)
    (verified_form _ (named_known c.in_ok-profile.profile) a.key.now a.digest.now a.att.now c.if-key-ne20.false c.if-digest-ne32.false c.in_err-form.ensures refl)

pub returns : goal.returns
returns c =
    let a = c.args in
    rw c.in_ok-profile.ensures (verified_judged _ (named_known c.in_ok-profile.profile) a.key.now a.digest.now a.att.now
    c.if-key-ne20.false c.if-digest-ne32.false (formed_done a.att.now c.in_ok-form.ensures refl) c.judgement.ensures)

pub invariant_of-judgement : goal.invariant_of-judgement
invariant_of-judgement c = record { formed = ∣ formed_done c.args.att.now c.in_ok-form.ensures refl ∣₁ }
