-- The table in the code is the standard's, so that a turn of ours is one of the standard's.
use Rattle.std.proofs.Common.{add-one}
use Rattle.sha256.specs.Fips180.{K, turns}
use Rattle.sha256.proofs.compress.eight_turns.Goals as goal

pub loop-i-preserved : goal.loop-i-preserved
unfolding K turns
loop-i-preserved c = λ h p. let q = c.loop-i.invariant h p in rw add-one (cc)
