-- SHA-256 as FIPS 180-4 defines it, in the standard's order. A word is a number below 2 ^ 32; a message, a block and a
-- digest are octet strings, so lengths here are in octets where the standard has bits, but for l and k of §5.1.1.
use Rattle.std.specs.Prelude.{ℕ, zero, suc, ◌+◌, ◌-◌, ◌*◌, ◌/◌, ◌%◌, ◌^◌, cond, List, [], ◌∷◌, ◌++◌, length, take, drop, replicate, bit_and, bit_or, bit_xor, nat_lt, slice_index, slice_index_or}
use Rattle.octets.specs.Order.{Octets}
use Rattle.sha256.specs.declared.compress.State.{State}

-- §2.2.2: the shifts of a word, which lose the bits that they move out of it
infixl 70 ◌≪◌ ◌≫◌
abbrev pub ◌≪◌ : ℕ → ℕ → ℕ
x ≪ n = x * 2 ^ n % 2 ^ 32

abbrev pub ◌≫◌ : ℕ → ℕ → ℕ
x ≫ n = x / 2 ^ n

-- §3.1: the number x as n octets, the most significant first
unfoldable pub octets : ℕ → ℕ → Octets
octets zero x = []
octets (suc n) x = x / 256 ^ n % 256 ∷ octets n x

-- §3.2, 1: bitwise AND, OR, XOR and complement
infixl 60 ◌AND◌ ◌OR◌ ◌XOR◌
abbrev pub ◌AND◌ : ℕ → ℕ → ℕ
x AND y = bit_and x y

abbrev pub ◌OR◌ : ℕ → ℕ → ℕ
x OR y = bit_or x y

abbrev pub ◌XOR◌ : ℕ → ℕ → ℕ
x XOR y = bit_xor x y

abbrev pub NOT : ℕ → ℕ
NOT x = (2 ^ 32 - 1) - x

-- §3.2, 2: addition modulo 2 ^ 32, the standard's +
infixl 65 ◌⊞◌
abbrev pub ◌⊞◌ : ℕ → ℕ → ℕ
x ⊞ y = (x + y) % 2 ^ 32

-- §3.2, 3 and 4: right shift, and rotation to the right
abbrev pub SHR : ℕ → ℕ → ℕ
SHR n x = x ≫ n

unfoldable pub ROTR : ℕ → ℕ → ℕ
ROTR n x = (x ≫ n) OR (x ≪ (32 - n))

-- §4.1.2 (4.2) to (4.7): the six functions
unfoldable pub Ch : ℕ → ℕ → ℕ → ℕ
Ch x y z = (x AND y) XOR (NOT x AND z)

unfoldable pub Maj : ℕ → ℕ → ℕ → ℕ
Maj x y z = (x AND y) XOR (x AND z) XOR (y AND z)

unfoldable pub Σ0 : ℕ → ℕ
Σ0 x = ROTR 2 x XOR ROTR 13 x XOR ROTR 22 x

unfoldable pub Σ1 : ℕ → ℕ
Σ1 x = ROTR 6 x XOR ROTR 11 x XOR ROTR 25 x

unfoldable pub σ0 : ℕ → ℕ
σ0 x = ROTR 7 x XOR ROTR 18 x XOR SHR 3 x

unfoldable pub σ1 : ℕ → ℕ
σ1 x = ROTR 17 x XOR ROTR 19 x XOR SHR 10 x

-- §4.2.2: the constants K_0 to K_63
unfoldable pub K : List ℕ
K =
    0x428a2f98 ∷ 0x71374491 ∷ 0xb5c0fbcf ∷ 0xe9b5dba5 ∷ 0x3956c25b ∷ 0x59f111f1 ∷ 0x923f82a4 ∷ 0xab1c5ed5 ∷
    0xd807aa98 ∷ 0x12835b01 ∷ 0x243185be ∷ 0x550c7dc3 ∷ 0x72be5d74 ∷ 0x80deb1fe ∷ 0x9bdc06a7 ∷ 0xc19bf174 ∷
    0xe49b69c1 ∷ 0xefbe4786 ∷ 0x0fc19dc6 ∷ 0x240ca1cc ∷ 0x2de92c6f ∷ 0x4a7484aa ∷ 0x5cb0a9dc ∷ 0x76f988da ∷
    0x983e5152 ∷ 0xa831c66d ∷ 0xb00327c8 ∷ 0xbf597fc7 ∷ 0xc6e00bf3 ∷ 0xd5a79147 ∷ 0x06ca6351 ∷ 0x14292967 ∷
    0x27b70a85 ∷ 0x2e1b2138 ∷ 0x4d2c6dfc ∷ 0x53380d13 ∷ 0x650a7354 ∷ 0x766a0abb ∷ 0x81c2c92e ∷ 0x92722c85 ∷
    0xa2bfe8a1 ∷ 0xa81a664b ∷ 0xc24b8b70 ∷ 0xc76c51a3 ∷ 0xd192e819 ∷ 0xd6990624 ∷ 0xf40e3585 ∷ 0x106aa070 ∷
    0x19a4c116 ∷ 0x1e376c08 ∷ 0x2748774c ∷ 0x34b0bcb5 ∷ 0x391c0cb3 ∷ 0x4ed8aa4a ∷ 0x5b9cca4f ∷ 0x682e6ff3 ∷
    0x748f82ee ∷ 0x78a5636f ∷ 0x84c87814 ∷ 0x8cc70208 ∷ 0x90befffa ∷ 0xa4506ceb ∷ 0xbef9a3f7 ∷ 0xc67178f2 ∷ []

-- §5.1.1: k, the least number with l + 1 + k ≡ 448 modulo 512, for a message of l bits
unfoldable pub zeros : ℕ → ℕ
zeros l = (959 - l % 512) % 512

-- §5.1.1, for a message of n octets, so of l = 8 n bits: the bit 1, then k zero bits, then l as 64 bits. Here k is 7 more
-- than a multiple of 8: the bit 1 and seven zeros are the octet 0x80, and the zeros left are k / 8 octets.
unfoldable pub padding : ℕ → Octets
padding n = 0x80 ∷ replicate (zeros (8 * n) / 8) 0 ++ octets 8 (8 * n)

-- §5.1.1: the padded message
unfoldable pub padded : Octets → Octets
padded m = m ++ padding (length m)

-- §5.2.1: the blocks of 512 bits, here counted from 0, and M_j, the word j of a block
unfoldable pub block : Octets → ℕ → Octets
block p i = take 64 (drop (64 * i) p)

unfoldable pub M : Octets → ℕ → ℕ
M b j = slice_index b (4 * j) * 2 ^ 24 + slice_index b (4 * j + 1) * 2 ^ 16 + slice_index b (4 * j + 2) * 2 ^ 8 + slice_index b (4 * j + 3)

-- §5.3.3: the initial hash value, H_0 to H_7 in the places of a to h
unfoldable pub H0 : State
H0 = record { a = 0x6a09e667; b = 0xbb67ae85; c = 0x3c6ef372; d = 0xa54ff53a; e = 0x510e527f; f = 0x9b05688c; g = 0x1f83d9ab; h = 0x5be0cd19 }

-- §6.2.2, 1: W_t for t from 16 on, out of the words before it
unfoldable pub next : List ℕ → ℕ → ℕ
next w t = σ1 (slice_index w (t - 2)) ⊞ slice_index_or w (t - 7) 0 ⊞ σ0 (slice_index w (t - 15)) ⊞ slice_index_or w (t - 16) 0

-- §6.2.2, 1: W_t of the block b, whose words before it are w
unfoldable pub W : Octets → List ℕ → ℕ → ℕ
W b w t = cond (nat_lt t 16) (M b t) (next w t)

-- §6.2.2, 1: the first n words of the message schedule, W_0 to W_(n - 1)
unfoldable pub schedule : Octets → ℕ → List ℕ
schedule b zero = []
schedule b (suc t) = schedule b t ++ (W b (schedule b t) t ∷ [])

-- §6.2.2, 3: one turn on the working variables a to h, with K_t and W_t
unfoldable pub T1 : State → ℕ → ℕ → ℕ
T1 s k w = s.h ⊞ Σ1 s.e ⊞ Ch s.e s.f s.g ⊞ k ⊞ w

unfoldable pub T2 : State → ℕ
T2 s = Σ0 s.a ⊞ Maj s.a s.b s.c

unfoldable pub turn : State → ℕ → ℕ → State
turn s k w =
    record { h = s.g; g = s.f; f = s.e; e = s.d ⊞ T1 s k w; d = s.c; c = s.b; b = s.a; a = T1 s k w ⊞ T2 s }

-- §6.2.2, 2 and 3: the first n turns, for t = 0 to n - 1, on working variables that begin as the hash value
unfoldable pub turns : State → List ℕ → ℕ → State
turns s w zero = s
turns s w (suc t) = turn (turns s w t) (slice_index K t) (slice_index w t)

-- §6.2.2, 4: the working variables added to the hash value
unfoldable pub added : State → State → State
added s H =
    record {
      a = s.a ⊞ H.a;
      b = s.b ⊞ H.b;
      c = s.c ⊞ H.c;
      d = s.d ⊞ H.d;
      e = s.e ⊞ H.e;
      f = s.f ⊞ H.f;
      g = s.g ⊞ H.g;
      h = s.h ⊞ H.h;
    }

-- §6.2.2, 1 to 4, for one block
unfoldable pub compress : State → Octets → State
compress H b = added (turns H (schedule b 64) 64) H

-- §6.2.2: the hash value after n blocks of p, one after the other, from the hash value H before them
unfoldable pub blocks : State → Octets → ℕ → State
blocks H p zero = H
blocks H p (suc i) = compress (blocks H p i) (block p i)

-- §6.2.2, the digest: H_0 to H_7 joined
unfoldable pub digest : State → Octets
digest H =
    octets 4 H.a ++ octets 4 H.b ++ octets 4 H.c ++ octets 4 H.d
    ++ octets 4 H.e ++ octets 4 H.f ++ octets 4 H.g ++ octets 4 H.h

-- §6.2: SHA-256 of m, the digest of all blocks of the padded message
unfoldable pub sha256 : Octets → Octets
sha256 m = digest (blocks H0 (padded m) (length (padded m) / 64))
