-- What FIPS 180-4 says of its own definitions holds: each is a law of `Fips180Laws`.
use Rattle.sha256.specs.Standard.{StandardSays}
use Rattle.sha256.proofs.Fips180Laws as laws

pub standard_says : StandardSays
standard_says = record {
  constants = laws.K_length;
  zeros_fit = laws.zeros_fit;
  zeros_least = laws.zeros_least;
  padding_bits = laws.padding_bits;
  padded_length = laws.padded_length;
  schedule_length = laws.schedule_length;
  W_first = laws.W_first;
  W_later = laws.W_later;
  digest_length = laws.sha256_length;
  digest_octets = laws.sha256_octets;
}
