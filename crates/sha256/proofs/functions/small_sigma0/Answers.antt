-- Each rotation ensures its own ROTR; the rest is σ0's text.
use Rattle.sha256.specs.Fips180.{σ0}
use Rattle.sha256.proofs.functions.small_sigma0.Goals as goal

pub returns : goal.returns
unfolding σ0
returns c = cc
