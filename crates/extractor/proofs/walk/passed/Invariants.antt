-- The loop's invariant: the records agree on each level before i. The measure is the number of levels that the first path has left;
-- there is one that differs, so the loop ends on it.
use Prim.Native.Nat.{◌-◌}
use Rattle.attester.specs.Path.{height}
use Rattle.attester.proofs.WalkLaws.{Passing}
use Rattle.profile.specs.Profile.{label}
use Rattle.profile.specs.Named.{number_of_profile}
use Rattle.attestation.specs.Shown.{shown}
use Rattle.extractor.proofs.walk.passed.Given as goal

abbrev pub invariant-loop-profile : goal.invariant-loop-profile
invariant-loop-profile l = Passing (label (number_of_profile l.profile)) l.x (shown l.first.octets.now) (shown l.second.octets.now) l.i

abbrev pub decreases-loop-profile : goal.decreases-loop-profile
decreases-loop-profile l = height (shown l.first.octets.now) - l.i
