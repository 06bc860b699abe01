-- Each end of the code is an end of the promise: an unknown profile, a key that may not be, a refusal handed on, too little room, an
-- attestation written whole.
use mathlib.Core.Path.{refl}
use native.Mathlib.Omega.{arith}
use Rattle.profile.specs.Profile.{label}
use Rattle.answer.proofs.HandedLaws.{handed_on}
use Rattle.profile.specs.Named.{number_of_profile}
use Rattle.profile.proofs.ProfileLaws.{label_length, named_known}
use Rattle.attestation.proofs.IssueLaws.{path_short, render_room}
use Rattle.attestation.proofs.AttestLaws.{attested_unknown, attested_size, accepted, attested_refused, attested_short, attested_done}
use Rattle.attestation.proofs.attest.Goals as goal

pub returns-in_err-profile : goal.returns-in_err-profile
returns-in_err-profile c =
    let a = c.args in
    rw (handed_on c.from_residual.result c.from_residual.ensures.1, c.in_err-profile.ensures.1)
    (attested_unknown a.profile a.key.now a.keys.now a.out.now c.in_err-profile.ensures.0)

pub returns-then-key-ne20 : goal.returns-then-key-ne20
returns-then-key-ne20 c =
    let a = c.args in
    rw (c.at.ensures, c.in_ok-profile.ensures) (attested_size _ (named_known c.in_ok-profile.profile) a.key.now a.keys.now a.out.now c.if-key-ne20.true)

pub returns-in_err-admit : goal.returns-in_err-admit
returns-in_err-admit c =
    let a = c.args in
    rw (handed_on c.from_residual-in_err-admit.result c.from_residual-in_err-admit.ensures.1, c.in_ok-profile.ensures)
    (attested_refused _ (named_known c.in_ok-profile.profile) a.key.now a.keys.now a.out.now c.in_err-admit.ensures c.if-key-ne20.false refl)

pub invariant_of-search : goal.invariant_of-search
invariant_of-search c =
    let a = c.args in
    record { keyed = (accepted (label (number_of_profile c.in_ok-profile.profile)) a.key.now a.keys.now a.out.now c.in_ok-admit.ensures refl).keyed }

pub overflow_add-n : goal.overflow_add-n
overflow_add-n c =
    let a = c.args in
    let H = label (number_of_profile c.in_ok-profile.profile) in
    let k = (accepted H a.key.now a.keys.now a.out.now c.in_ok-admit.ensures refl).keyed in
    omega (arith, c.levels_length-n.ensures H, path_short a.key.now a.keys.now k H)

pub returns-then-out-n : goal.returns-then-out-n
returns-then-out-n c =
    let a = c.args in
    let p = number_of_profile c.in_ok-profile.profile in
    rw (c.at-then-out-n.ensures, c.in_ok-profile.ensures)
    (attested_short p (named_known c.in_ok-profile.profile) a.key.now a.keys.now a.out.now
    c.in_ok-admit.ensures c.if-key-ne20.false refl (c.levels_length-n.ensures (label p)) (omega arith))

pub put_attestation-requires : goal.put_attestation-requires
put_attestation-requires c =
    let a = c.args in
    let p = number_of_profile c.in_ok-profile.profile in
    let k = (accepted (label p) a.key.now a.keys.now a.out.now c.in_ok-admit.ensures refl).keyed in
    omega (arith, c.levels_length-n.ensures (label p), render_room a.key.now a.keys.now k (label p) (label_length p))

pub overflow_cast-result : goal.overflow_cast-result
overflow_cast-result c =
    let a = c.args in
    let H = label (number_of_profile c.in_ok-profile.profile) in
    let k = (accepted H a.key.now a.keys.now a.out.now c.in_ok-admit.ensures refl).keyed in
    omega (arith, c.levels_length-n.ensures H, path_short a.key.now a.keys.now k H)

pub returns : goal.returns
returns c =
    let a = c.args in
    let p = number_of_profile c.in_ok-profile.profile in
    rw c.in_ok-profile.ensures (attested_done p (named_known c.in_ok-profile.profile) a.key.now a.keys.now a.out.now
    c.in_ok-admit.ensures c.if-key-ne20.false refl (c.levels_length-n.ensures (label p)) (omega arith) c.put_attestation.ensures)
