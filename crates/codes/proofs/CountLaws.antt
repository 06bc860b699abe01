-- The number that a count's digits make, digit by digit.
use mathlib.Core.Path.{◌≡◌}
use mathlib.Core.Bool.{true, ◌&&◌, ◌||◌, not}
use Prim.Native.Nat.{ℕ, suc, ◌+◌, ◌-◌, ◌*◌, ◌^◌, ◌≤◌, ◌<◌}
use native.Mathlib.Numerals.{add-one}
use native.Mathlib.Omega.{arith}
use borrow.Author.Tests.{leb-true}
use lib.Dec.{leb, eqb}
use lib.ListN.{length, drop, get_or, drop_of_length-le}
use lib.Seq.{drop-cons}
use Rattle.octets.specs.Order.{Octets}
use Rattle.codes.specs.Code.{within, all, digit}
use Rattle.codes.specs.Count.{is_count, number_after, number}
use Rattle.std.proofs.Common.{refl, [], ◌∷◌}
use native.Mathlib.Nat.{pow-suc, pow-le-pow_right}
use Rattle.std.proofs.lemmas.List.Recursion.{and_at}
use Rattle.codes.proofs.Tests.{both}

pub within_true : (a b n : ℕ) → within a b n ≡ true → (a ≤ n) × (n ≤ b)
unfolding within
within_true a b n e = let h = both (leb a n) (leb n b) e in (leb-true a n h.0, leb-true n b h.1)

pub digit_range : (c : ℕ) → digit c ≡ true → (48 ≤ c) × (c ≤ 57)
unfolding digit
digit_range c e = within_true 48 57 c e

-- what a count is made of
pub record Count (s : Octets) : Type 0 where
  pub some : 1 ≤ length s
  pub few : length s ≤ 5
  pub digits : all digit s ≡ true
  pub lead : (not (eqb (get_or s 0 0) 48) || eqb (length s) 1) ≡ true

pub count_parts : (s : Octets) → is_count s ≡ true → Count s
unfolding is_count
count_parts s e =
    let h = both (within 1 5 (length s)) (all digit s && (not (eqb (get_or s 0 0) 48) || eqb (length s) 1)) e in
    let k = both (all digit s) (not (eqb (get_or s 0 0) 48) || eqb (length s) 1) h.1 in
    let w = within_true 1 5 (length s) h.0 in
    record { some = w.0; few = w.1; digits = k.0; lead = k.1 }

pub number_most : (e m : ℕ) (s : Octets) → all digit s ≡ true → m < 10 ^ e → number_after m s < 10 ^ (e + length s)
unfolding number_after all
number_most e m [] d h = let z : e + 0 ≡ e = omega arith in rw z h
number_most e m (c ∷ s) d h =
    let k = both (digit c) (all digit s) d in
    let r = digit_range c k.0 in
    let p = pow-suc 10 e in
    let z : e + suc (length s) ≡ suc e + length s = omega arith in
    rw z (number_most (suc e) (m * 10 + (c - 48)) s k.1 (omega arith))

-- digits never make a number fall
number_rises : (n : ℕ) (s : Octets) → n ≤ number_after n s
unfolding number_after
number_rises n [] = omega arith
number_rises n (c ∷ s) = omega (arith, number_rises (n * 10 + (c - 48)) s)

-- one digit more, where what is left makes the number of them all
pub record Turn (s : Octets) (n i : ℕ) : Type 0 where
  pub least : 48 ≤ get_or s i 0
  pub left : number_after (n * 10 + (get_or s i 0 - 48)) (drop (i + 1) s) ≡ number s
  pub few : n * 10 + (get_or s i 0 - 48) < 100000

-- five digits make less than 100,000
pub number_few : (s : Octets) → is_count s ≡ true → number s < 100000
unfolding number
number_few s e =
    let p = count_parts s e in
    omega (arith, number_most 0 0 s p.digits (omega arith), pow-le-pow_right {n = 10} (omega arith) {i = 0 + length s} {j = 5} (omega arith))

pub number_turn : (s : Octets) (n i : ℕ) → is_count s ≡ true → i < length s → number_after n (drop i s) ≡ number s → Turn s n i
unfolding number_after all
number_turn s n i e p h =
    let c = count_parts s e in
    let r = digit_range (get_or s i 0) (and_at (all digit) digit refl (λ _ _. refl) s i 0 p c.digits) in
    let left : number_after (n * 10 + (get_or s i 0 - 48)) (drop (i + 1) s) ≡ number s = rw add-one (rw (drop-cons s i 0 p) at h) in
    record { least = r.0; left = left; few = omega (arith, number_rises (n * 10 + (get_or s i 0 - 48)) (drop (i + 1) s), number_few s e) }

pub number_end : (s : Octets) (n i : ℕ) → length s ≤ i → number_after n (drop i s) ≡ number s → n ≡ number s
unfolding number_after
number_end s n i p h = rw (drop_of_length-le s {i = i} p) at h
