-- What FIPS 180-4 says of its own definitions, beside defining them: by it `Fips180` can be checked. Proved in
-- `proofs/Standard.antt`.
use Rattle.std.specs.Prelude.{◌≡◌, ℕ, zero, suc, ◌+◌, ◌-◌, ◌*◌, ◌/◌, ◌%◌, ◌^◌, ◌<◌, ◌≤◌, List, [], ◌∷◌, ◌++◌, length, replicate, slice_index}
use Rattle.octets.specs.Order.{Octets, AreOctets}
use Rattle.sha256.specs.Fips180.{◌⊞◌, σ0, σ1, K, zeros, padding, padded, M, schedule, sha256}

-- §3.1: the number x as n bits, the most significant first
unfoldable pub binary : ℕ → ℕ → List ℕ
binary zero x = []
binary (suc n) x = x / 2 ^ n % 2 ∷ binary n x

-- §3.1: the bits of an octet string, octet by octet
unfoldable pub bits : Octets → List ℕ
bits [] = []
bits (a ∷ s) = binary 8 a ++ bits s

-- §6.2.2, 1: W_t of the block b
abbrev pub Wₜ : Octets → ℕ → ℕ
Wₜ b t = slice_index (schedule b 64) t

pub record StandardSays : Type 0 where
  -- §4.2.2: K is a "sequence of sixty-four constant 32-bit words"
  pub constants : length K ≡ 64
  -- §5.1.1: "k is the smallest, non-negative solution to the equation l + 1 + k ≡ 448 mod 512"
  pub zeros_fit : (l : ℕ) → (l + 1 + zeros l) % 512 ≡ 448
  pub zeros_least : (l k : ℕ) → (l + 1 + k) % 512 ≡ 448 → zeros l ≤ k
  -- §5.1.1: appended are the bit 1, "followed by k zero bits", and "the 64-bit block that is equal to the number l"; here l is 8 n
  pub padding_bits : (n : ℕ) → bits (padding n) ≡ 1 ∷ replicate (zeros (8 * n)) 0 ++ binary 64 (8 * n)
  -- §5.1.1: "The length of the padded message should now be a multiple of 512 bits", so of 64 octets
  pub padded_length : (m : Octets) → length (padded m) % 64 ≡ 0
  -- §6.2: "a message schedule of sixty-four 32-bit words"
  pub schedule_length : (b : Octets) → length (schedule b 64) ≡ 64
  -- §6.2.2, 1: W_t for t up to 15, and from 16 to 63
  pub W_first : (b : Octets) (t : ℕ) → t < 16 → Wₜ b t ≡ M b t
  pub W_later : (b : Octets) (t : ℕ) → 16 ≤ t → t < 64 → Wₜ b t ≡ σ1 (Wₜ b (t - 2)) ⊞ Wₜ b (t - 7) ⊞ σ0 (Wₜ b (t - 15)) ⊞ Wₜ b (t - 16)
  -- §6.2: "The final result of SHA-256 is a 256-bit message digest": 32 octets, each below 256
  pub digest_length : (m : Octets) → length (sha256 m) ≡ 32
  pub digest_octets : (m : Octets) → AreOctets (sha256 m)
