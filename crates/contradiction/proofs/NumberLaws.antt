-- A number below 2 ^ 32 as a key: 16 zeros before its four octets, which tell the number.
use mathlib.Core.Path.{◌≡◌, refl, sym, ap, ◌∙◌}
use mathlib.Core.List.{[], ◌++◌, append-nil}
use Prim.Native.Nat.{ℕ, zero, suc, ◌+◌, ◌/◌, ◌%◌, ◌^◌, ◌≤◌, ◌<◌}
use native.Mathlib.Nat.{div-one, div-eq_of_lt, pow-le-pow_right}
use native.Mathlib.Omega.{arith}
use lib.ListN.{length, get_or, replicate}
use Rattle.octets.specs.Order.{Octets}
use Rattle.std.specs.Int.{bytes_high_first}
use Rattle.sha256.specs.Fips180.{octets}
use Rattle.contradiction.specs.Trial.{number_key}

pub key_length : (n : ℕ) → length (number_key n) ≡ 20
unfolding octets
key_length n = refl

zero_octet : (n b : ℕ) → n < b → n / b % 256 ≡ 0
zero_octet n b h = let e : n / b ≡ 0 = div-eq_of_lt h in omega arith

pub small_octets : (n k : ℕ) → n < 256 ^ 4 → octets (4 + k) n ≡ replicate k 0 ++ octets 4 n
unfolding octets
small_octets n zero h = refl
small_octets n (suc k) h =
    let m : 256 ^ 4 ≤ 256 ^ (4 + k) = pow-le-pow_right (omega arith) {i = 4} {j = 4 + k} (omega arith) in
    let e : 4 + suc k ≡ suc (4 + k) = omega arith in
    rw (e, zero_octet n (256 ^ (4 + k)) (omega arith), small_octets n k h)

-- the library's four octets
pub octets_bytes : (n : ℕ) → bytes_high_first 4 n ≡ octets 4 n
unfolding octets
octets_bytes n = let e : n % 256 ≡ n / 1 % 256 = omega arith in rw e

-- which the code writes behind 16 zeros
pub key_written : (n : ℕ) {s : Octets} → n < 2 ^ 32 → s ≡ bytes_high_first 4 n → replicate 16 0 ++ (s ++ []) ≡ number_key n
key_written n {s} h e = rw (small_octets n 16 h, append-nil s, e, octets_bytes n)

-- equal above the last octet, and in it
joined : (n m : ℕ) → n / 256 ≡ m / 256 → n % 256 ≡ m % 256 → n ≡ m
joined n m p q = omega arith

quotients : (n : ℕ) → (n / 65536 / 256 ≡ n / 16777216) × (n / 256 / 256 ≡ n / 65536)
quotients n = (omega arith, omega arith)

first_octet : (n m : ℕ) → n < 2 ^ 32 → m < 2 ^ 32 → n / 16777216 % 256 ≡ m / 16777216 % 256 → n / 16777216 ≡ m / 16777216
first_octet n m p q e = omega arith

pub key_injective : (n m : ℕ) → n < 2 ^ 32 → m < 2 ^ 32 → number_key n ≡ number_key m → n ≡ m
unfolding octets
key_injective n m p q e =
    let s = quotients n in
    let t = quotients m in
    let one : n / 16777216 ≡ m / 16777216 = first_octet n m p q (ap (λ s. get_or s 16 0) e) in
    let two : n / 65536 ≡ m / 65536 = joined _ _ (s.0 ∙ one ∙ sym t.0) (ap (λ s. get_or s 17 0) e) in
    let three : n / 256 ≡ m / 256 = joined _ _ (s.1 ∙ two ∙ sym t.1) (ap (λ s. get_or s 18 0) e) in
    let last : n / 1 % 256 ≡ m / 1 % 256 = ap (λ s. get_or s 19 0) e in
    joined n m three (simp div-one at last)

-- of two numbers in a row the last octets differ
pub keys_in_a_row : (n : ℕ) → number_key (suc n) ≡ number_key n → ⊥
unfolding octets
keys_in_a_row n e =
    let last : suc n / 1 % 256 ≡ n / 1 % 256 = ap (λ s. get_or s 19 0) e in
    omega arith
