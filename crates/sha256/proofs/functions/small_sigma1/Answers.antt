-- Each rotation ensures its own ROTR; the rest is σ1's text.
use Rattle.sha256.specs.Fips180.{σ1}
use Rattle.sha256.proofs.functions.small_sigma1.Goals as goal

pub returns : goal.returns
unfolding σ1
returns c = cc
