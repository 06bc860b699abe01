-- Each rotation ensures its own ROTR; the rest is Σ1's text.
use Rattle.sha256.specs.Fips180.{Σ1}
use Rattle.sha256.proofs.functions.big_sigma1.Goals as goal

pub returns : goal.returns
unfolding Σ1
returns c = cc
