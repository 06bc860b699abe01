-- The definitions compute: each value is the checker's own evaluation, under one second a block.
use Rattle.std.proofs.Common.{◌≡◌, [], refl}
use Rattle.octets.specs.Order.{Octets}
use Rattle.sha256.specs.Fips180.{octets, ROTR, Ch, Maj, Σ0, Σ1, σ0, σ1, K, zeros, padding, padded, block, M, H0, next, W, schedule, T1, T2, turn, turns, added, compress, blocks, digest, sha256}
use Rattle.sha256.specs.Examples.{Examples}

-- SHA-256 with every definition of the standard open: a proof that unfolds this name computes values
unfoldable pub computed : Octets → Octets
unfolding octets ROTR Ch Maj Σ0 Σ1 σ0 σ1 K zeros padding padded block M H0 next W schedule T1 T2 turn turns added compress blocks digest sha256
computed = sha256

no_octets : sha256 [] ≡ octets 32 0xe3b0c442_98fc1c14_9afbf4c8_996fb924_27ae41e4_649b934c_a495991b_7852b855
unfolding computed
no_octets = refl

abc : sha256 (octets 3 0x616263) ≡ octets 32 0xba7816bf_8f01cfea_414140de_5dae2223_b00361a3_96177a9c_b410ff61_f20015ad
unfolding computed
abc = refl

pub examples : Examples
unfolding computed
examples = record { no_octets = no_octets; abc = abc; two_blocks = refl }
