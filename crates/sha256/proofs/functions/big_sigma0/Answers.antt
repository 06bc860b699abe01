-- Each rotation ensures its own ROTR; the rest is Σ0's text.
use Rattle.sha256.specs.Fips180.{Σ0}
use Rattle.sha256.proofs.functions.big_sigma0.Goals as goal

pub returns : goal.returns
unfolding Σ0
returns c = cc
