-- What FIPS 180-4 says of its own definitions, as theorems, and facts for callers; `specs/Standard.antt` collects the statements.
-- `Bits` and `ScheduleLaws` have what they rest on.
use Rattle.std.proofs.Common.{◌≡◌, ℕ, ◌+◌, ◌-◌, ◌*◌, ◌/◌, ◌%◌, ◌<◌, ◌≤◌, ◌∷◌, ◌++◌, length, replicate, refl, arith, length-append}
use lib.ListN.{length-replicate}
use Rattle.octets.specs.Order.{Octets, AreOctets}
use Rattle.sha256.specs.declared.compress.State.{State}
use Rattle.sha256.specs.Fips180.{◌⊞◌, σ0, σ1, K, zeros, octets, padding, padded, M, next, schedule, H0, blocks, digest, sha256}
use Rattle.sha256.specs.Standard.{binary, bits, Wₜ}
use Rattle.sha256.proofs.Bits.{padding_digits}
use Rattle.sha256.proofs.ScheduleLaws.{schedule_size, schedule_block, schedule_next}

-- §4.2.2: 64 constants
pub K_length : length K ≡ 64
unfolding K
K_length = refl

-- §5.1.1: l + 1 + k ≡ 448 modulo 512, and no smaller k does it
pub zeros_fit : (l : ℕ) → (l + 1 + zeros l) % 512 ≡ 448
unfolding zeros
zeros_fit l = omega arith

pub zeros_least : (l k : ℕ) → (l + 1 + k) % 512 ≡ 448 → zeros l ≤ k
unfolding zeros
zeros_least l k h = omega arith

-- §5.1.1, bit by bit, for a message of n octets: the bit 1, k zeros, and the length l = 8 n as 64 bits. The bits of an octet
-- string are those of its octets, each from its most significant (§3.1).
pub padding_bits : (n : ℕ) → bits (padding n) ≡ 1 ∷ replicate (zeros (8 * n)) 0 ++ binary 64 (8 * n)
unfolding padding
padding_bits n = padding_digits n

-- §5.1.1: the padded message is a whole number of blocks
pub padded_length : (m : Octets) → length (padded m) % 64 ≡ 0
unfolding padded padding zeros octets
padded_length m = simp (length-append, length-replicate) (omega arith)

-- §6.2.2, 1: the schedule has 64 words
pub schedule_length : (b : Octets) → length (schedule b 64) ≡ 64
schedule_length b = schedule_size b 64

-- §6.2.2, 1: W_t of the block b
pub W_first : (b : Octets) (t : ℕ) → t < 16 → Wₜ b t ≡ M b t
W_first b t h = schedule_block b 64 t (omega arith) h

pub W_later : (b : Octets) (t : ℕ) → 16 ≤ t → t < 64 → Wₜ b t ≡ σ1 (Wₜ b (t - 2)) ⊞ Wₜ b (t - 7) ⊞ σ0 (Wₜ b (t - 15)) ⊞ Wₜ b (t - 16)
unfolding next
W_later b t l h = schedule_next b 64 t l h

-- §6.2: a digest is of 32 octets
pub sha256_length : (m : Octets) → length (sha256 m) ≡ 32
unfolding sha256 digest octets
sha256_length m = refl

-- §3.1: a digest's octets are octets, each below 256
digest_octets : (s : State) → AreOctets (digest s)
unfolding digest octets
digest_octets s = omega arith

pub sha256_octets : (m : Octets) → AreOctets (sha256 m)
unfolding sha256
sha256_octets m = digest_octets (blocks H0 (padded m) (length (padded m) / 64))
