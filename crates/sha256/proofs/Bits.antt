-- The bits of octet strings: an octet of a number is eight of its bits, so the padding's octets are the standard's bits.
use Rattle.std.proofs.Common.{◌≡◌, ℕ, zero, suc, ◌+◌, ◌*◌, ◌/◌, ◌%◌, ◌^◌, [], ◌∷◌, ◌++◌, replicate, sym, refl, ap, ◌∙◌, ap₂, append_assoc, add_comm, pow-suc, pow-add, shr-shr, arith}
use lib.ListN.{replicate-append-replicate}
use Rattle.octets.specs.Order.{Octets}
use Rattle.sha256.specs.Fips180.{octets, zeros}
use Rattle.sha256.specs.Standard.{binary, bits}

bits_append : (s t : Octets) → bits (s ++ t) ≡ bits s ++ bits t
unfolding bits
bits_append [] t = refl
bits_append (a ∷ s) t = rw (bits_append s t, append_assoc (binary 8 a) (bits s) (bits t))

bits_zeros : (n : ℕ) → bits (replicate n 0) ≡ replicate (8 * n) 0
unfolding bits binary
bits_zeros zero = refl
bits_zeros (suc n) =
    let e : 8 * suc n ≡ 8 + 8 * n = omega arith in
    rw (bits_zeros n, e) (replicate-append-replicate {A = ℕ} 8 (8 * n) 0)

power_octets : (n : ℕ) → 256 ^ n ≡ 2 ^ (8 * n)
power_octets zero = refl
power_octets (suc n) =
    let e : 8 * suc n ≡ 8 + 8 * n = omega arith in
    rw (e, pow-add 2 8 (8 * n), pow-suc 256 n, power_octets n) (omega arith)

binary_add : (k m x : ℕ) → binary (k + m) x ≡ binary k (x / 2 ^ m) ++ binary m x
unfolding binary
binary_add zero m x = let e : zero + m ≡ m = omega arith in rw e
binary_add (suc k) m x =
    let e : suc k + m ≡ suc (k + m) = omega arith in
    rw (e, binary_add k m x, shr-shr x m k, add_comm k m)

-- the last eight bits are those of the last octet
binary_octet : (x : ℕ) → binary 8 (x % 256) ≡ binary 8 x
unfolding binary
binary_octet x = eight (omega arith) (omega arith) (omega arith) (omega arith) (omega arith) (omega arith) (omega arith) (omega arith)
  where
    eight : x % 256 / 128 % 2 ≡ x / 128 % 2
        → x % 256 / 64 % 2 ≡ x / 64 % 2
        → x % 256 / 32 % 2 ≡ x / 32 % 2
        → x % 256 / 16 % 2 ≡ x / 16 % 2
        → x % 256 / 8 % 2 ≡ x / 8 % 2
        → x % 256 / 4 % 2 ≡ x / 4 % 2
        → x % 256 / 2 % 2 ≡ x / 2 % 2
        → x % 256 / 1 % 2 ≡ x / 1 % 2
        → binary 8 (x % 256) ≡ binary 8 x
    eight b7 b6 b5 b4 b3 b2 b1 b0 = cc

binary_none : (x : ℕ) → binary 0 x ≡ []
unfolding binary
binary_none x = refl

bits_octets : (n x : ℕ) → bits (octets n x) ≡ binary (8 * n) x
unfolding bits octets
bits_octets zero x = sym (binary_none x)
bits_octets (suc n) x =
    let e : 8 * suc n ≡ 8 + 8 * n = omega arith in
    rw (e, binary_add 8 (8 * n) x, bits_octets n x, power_octets n, binary_octet (x / 2 ^ (8 * n)))

-- the octet 0x80 and z zero octets
bits_mark : (z : ℕ) → bits (0x80 ∷ replicate z 0) ≡ 1 ∷ replicate (7 + 8 * z) 0
unfolding bits binary
bits_mark z = rw (bits_zeros z, ← replicate-append-replicate {A = ℕ} 7 (8 * z) 0)

-- for whole octets k is 7 more than a multiple of 8
zeros_octets : (n : ℕ) → zeros (8 * n) ≡ 7 + 8 * (zeros (8 * n) / 8)
unfolding zeros
zeros_octets n = omega arith

pub padding_digits : (n : ℕ) → bits (0x80 ∷ replicate (zeros (8 * n) / 8) 0 ++ octets 8 (8 * n)) ≡ 1 ∷ replicate (zeros (8 * n)) 0 ++ binary 64 (8 * n)
padding_digits n =
    let z = zeros (8 * n) / 8 in
    let m : bits (0x80 ∷ replicate z 0) ≡ 1 ∷ replicate (zeros (8 * n)) 0 = bits_mark z ∙ ap (λ (k : ℕ). 1 ∷ replicate {A = ℕ} k 0) (sym (zeros_octets n)) in
    bits_append (0x80 ∷ replicate z 0) (octets 8 (8 * n)) ∙ ap₂ ◌++◌ m (bits_octets 8 (8 * n))
