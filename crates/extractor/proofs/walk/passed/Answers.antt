-- The loop's turn and its end.
use mathlib.Core.Path.{sym, ◌∙◌}
use native.Mathlib.Omega.{arith}
use Rattle.attester.proofs.WalkLaws.{passing_start, passing_end}
use Rattle.profile.specs.Profile.{label}
use Rattle.profile.specs.Named.{number_of_profile}
use Rattle.attestation.specs.Shown.{shown}
use Rattle.extractor.proofs.PassedLaws.{in_first, in_second, few, walking_next}
use Rattle.extractor.proofs.walk.passed.Goals as goal

pub loop-profile-init : goal.loop-profile-init
loop-profile-init c =
    let a = c.args in
    passing_start (label (number_of_profile a.profile)) a.x.now (shown a.first.octets.now) (shown a.second.octets.now)

pub agree-requires : goal.agree-requires
agree-requires c = (in_first c.args.first.octets.now c.args.second.octets.now c.loop-profile.invariant c.args.first.formed, in_second c.args.first.octets.now c.args.second.octets.now c.loop-profile.invariant c.args.second.formed)

pub overflow_add-i : goal.overflow_add-i
overflow_add-i c = omega (arith, few c.args.first.octets.now c.args.second.octets.now c.loop-profile.invariant c.args.first.formed)

pub loop-profile-smaller : goal.loop-profile-smaller
loop-profile-smaller c =
    omega (arith, (walking_next c.args.first.octets.now c.args.second.octets.now c.loop-profile.invariant c.requires (sym c.agree.ensures ∙ c.loop-profile-test.true)).first_level)

pub loop-profile-preserved : goal.loop-profile-preserved
loop-profile-preserved c = walking_next c.args.first.octets.now c.args.second.octets.now c.loop-profile.invariant c.requires (sym c.agree.ensures ∙ c.loop-profile-test.true)

pub returns-clause-is : goal.returns-clause-is
returns-clause-is c =
    let a = c.args in
    passing_end (label (number_of_profile a.profile)) a.x.now (shown a.first.octets.now) (shown a.second.octets.now) c.loop-profile.i c.loop-profile.invariant
    (sym c.agree.ensures ∙ c.loop-profile-test.false)

pub returns-clause-in_first : goal.returns-clause-in_first
returns-clause-in_first c = in_first c.args.first.octets.now c.args.second.octets.now c.loop-profile.invariant c.args.first.formed

pub returns-clause-in_second : goal.returns-clause-in_second
returns-clause-in_second c = in_second c.args.first.octets.now c.args.second.octets.now c.loop-profile.invariant c.args.second.formed
