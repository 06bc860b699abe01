-- A number below 100,000 in decimal is a count that makes that number, and a count is its number in decimal. A number's digits are
-- taken off its end; how many there are is read off its size.
use mathlib.Core.Path.{◌≡◌, refl, sym, ap, ◌∙◌}
use mathlib.Core.Bool.{Bool, true, false, ◌||◌, not, or-true}
use mathlib.Core.List.{[], ◌∷◌, ◌++◌, append_assoc, append-nil}
use Prim.Native.Nat.{ℕ, zero, suc, ◌+◌, ◌-◌, ◌*◌, ◌/◌, ◌%◌, ◌^◌, ◌≤◌, ◌<◌}
use native.Mathlib.Nat.{pow-suc, one-le-pow}
use native.Mathlib.Omega.{arith}
use borrow.Author.Tests.{le-leb, ltb-true, ltb-false, ne_eqb, eq-eqb}
use lib.Dec.{ltb, eqb}
use lib.ListN.{length, get_or, length-append, get_or-append}
use Rattle.octets.specs.Order.{Octets}
use Rattle.show.specs.Decimal.{decimal}
use Rattle.show.proofs.DecimalLaws.{decimal_one, decimal_more}
use Rattle.codes.specs.Code.{within, all, digit}
use Rattle.codes.specs.Count.{is_count, number_after, number}
use Rattle.codes.proofs.Tests.{both}
use Rattle.codes.proofs.CountLaws.{digit_range, count_parts, number_most}

-- the last d digits of n
abbrev digits : ℕ → ℕ → Octets
digits zero n = []
digits (suc d) n = digits d (n / 10) ++ ((48 + n % 10) ∷ [])

digits_length : (d n : ℕ) → length (digits d n) ≡ d
digits_length zero n = refl
digits_length (suc d) n = simp length-append (omega (arith, digits_length d (n / 10)))

-- a number of d + 2 digits
decimal_digits : (d n : ℕ) → 10 ^ suc d ≤ n → n < 10 ^ suc (suc d) → decimal n ≡ digits (suc (suc d)) n
decimal_digits zero n l h = decimal_more n (omega arith) ∙ ap (λ (s : Octets). s ++ ((48 + n % 10) ∷ [])) (decimal_one (n / 10) (omega arith))
decimal_digits (suc d) n l h =
    let p = pow-suc 10 (suc d) in
    let q = pow-suc 10 (suc (suc d)) in
    let r = pow-suc 10 d in
    let ten : 10 ≤ n = omega (arith, one-le-pow d 10 (omega arith)) in
    decimal_more n ten ∙ ap (λ (s : Octets). s ++ ((48 + n % 10) ∷ [])) (decimal_digits d (n / 10) (omega arith) (omega arith))

-- From digits to their number and back

digits_last : (d m c : ℕ) → 48 ≤ c → c ≤ 57 → digits (suc d) (m * 10 + (c - 48)) ≡ digits d m ++ (c ∷ [])
digits_last d m c p q =
    let a : (m * 10 + (c - 48)) / 10 ≡ m = omega arith in
    let b : 48 + (m * 10 + (c - 48)) % 10 ≡ c = omega arith in
    rw (a, b)

digits_after : (d m : ℕ) (s : Octets) → all digit s ≡ true → digits (d + length s) (number_after m s) ≡ digits d m ++ s
unfolding number_after all
digits_after d m [] e = let z : d + 0 ≡ d = omega arith in rw (z, append-nil)
digits_after d m (c ∷ s) e =
    let h = both (digit c) (all digit s) e in
    let r = digit_range c h.0 in
    let z : d + suc (length s) ≡ suc d + length s = omega arith in
    rw z (digits_after (suc d) (m * 10 + (c - 48)) s h.1 ∙ rw (digits_last d m c r.0 r.1) (append_assoc (digits d m) (c ∷ []) s))

digits_number : (s : Octets) → all digit s ≡ true → digits (length s) (number s) ≡ s
unfolding number
digits_number s e = let z : 0 + length s ≡ length s = omega arith in rw z at (digits_after 0 0 s e)

number_snoc : (m : ℕ) (s : Octets) (c : ℕ) → number_after m (s ++ (c ∷ [])) ≡ number_after m s * 10 + (c - 48)
unfolding number_after
number_snoc m [] c = refl
number_snoc m (a ∷ s) c = number_snoc (m * 10 + (a - 48)) s c

number_digits : (d n : ℕ) → n < 10 ^ d → number (digits d n) ≡ n
unfolding number number_after
number_digits zero n h = omega arith
number_digits (suc d) n h =
    let p = pow-suc 10 d in
    number_snoc 0 (digits d (n / 10)) (48 + n % 10) ∙ rw (number_digits d (n / 10) (omega arith)) (omega arith)

-- A count is its number in decimal

number_least : (e m : ℕ) (s : Octets) → 10 ^ e ≤ m → 10 ^ (e + length s) ≤ number_after m s
unfolding number_after
number_least e m [] h = let z : e + 0 ≡ e = omega arith in rw z h
number_least e m (c ∷ s) h =
    let p = pow-suc 10 e in
    let z : e + suc (length s) ≡ suc e + length s = omega arith in
    rw z (number_least (suc e) (m * 10 + (c - 48)) s (omega arith))

lead_nonzero : (a n : ℕ) → (not (eqb a 48) || eqb (suc (suc n)) 1) ≡ true → a ≡ 48 → ⊥
lead_nonzero a n e q =
    let f : (not true || false) ≡ true = rw (eq-eqb a 48 q, ne_eqb (suc (suc n)) 1 (λ z. omega arith)) at e in
    let z : ◌≡◌ {A = ℕ} 0 1 = cc in omega arith

decimal_size : (s : Octets) → 1 ≤ length s → all digit s ≡ true → (not (eqb (get_or s 0 0) 48) || eqb (length s) 1) ≡ true
    → decimal (number s) ≡ digits (length s) (number s)
unfolding number number_after all
decimal_size [] p d l = absurd (omega arith)
decimal_size (a ∷ []) p d l =
    let r = digit_range a (both (digit a) true d).0 in
    decimal_one (0 * 10 + (a - 48)) (omega arith)
decimal_size (a ∷ b ∷ s) p d l =
    let k = both (digit a) (all digit (b ∷ s)) d in
    let r = digit_range a k.0 in
    let nz = lead_nonzero a (length s) l in
    let m = number_most 1 (0 * 10 + (a - 48)) (b ∷ s) k.1 (omega arith) in
    let g = number_least 0 (0 * 10 + (a - 48)) (b ∷ s) (omega arith) in
    let y : 1 + suc (length s) ≡ suc (suc (length s)) = omega arith in
    let z : 0 + suc (length s) ≡ suc (length s) = omega arith in
    decimal_digits (length s) (number_after (0 * 10 + (a - 48)) (b ∷ s)) (rw z at g) (rw y at m)

pub decimal_number : (s : Octets) → is_count s ≡ true → decimal (number s) ≡ s
decimal_number s e =
    let c = count_parts s e in
    decimal_size s c.some c.digits c.lead ∙ digits_number s c.digits

-- A number in decimal is a count that makes it

all_append : (test : ℕ → Bool) (s t : Octets) → all test s ≡ true → all test t ≡ true → all test (s ++ t) ≡ true
unfolding all
all_append test [] t p q = q
all_append test (c ∷ s) t p q = let h = both (test c) (all test s) p in rw h.0 (all_append test s t h.1 q)

digit_mod : (n : ℕ) → digit (48 + n % 10) ≡ true
unfolding digit within
digit_mod n = rw (le-leb 48 (48 + n % 10) (omega arith), le-leb (48 + n % 10) 57 (omega arith))

digits_all : (d n : ℕ) → all digit (digits d n) ≡ true
unfolding all
digits_all zero n = refl
digits_all (suc d) n = all_append digit (digits d (n / 10)) ((48 + n % 10) ∷ []) (digits_all d (n / 10)) (rw (digit_mod n))

digits_lead : (d n : ℕ) → 10 ^ d ≤ n → n < 10 ^ suc d → get_or (digits (suc d) n) 0 0 ≡ 48 → ⊥
digits_lead zero n l h e = omega arith
digits_lead (suc d) n l h e =
    let p = pow-suc 10 d in
    let q = pow-suc 10 (suc d) in
    let g : get_or (digits (suc (suc d)) n) 0 0 ≡ get_or (digits (suc d) (n / 10)) 0 0 =
    get_or-append (digits (suc d) (n / 10)) ((48 + n % 10) ∷ []) 0 0 (omega (arith, digits_length (suc d) (n / 10))) in
    digits_lead d (n / 10) (omega arith) (omega arith) (sym g ∙ e)

pub record Counts (s : Octets) (n : ℕ) : Type 0 where
  pub count : is_count s ≡ true
  pub makes : number s ≡ n

counts_one : (n : ℕ) → n < 10 → Counts (digits 1 n) n
unfolding is_count within all
counts_one n h = record { count = rw (digit_mod n) (or-true (not (eqb (48 + n % 10) 48))); makes = number_digits 1 n h }

counts_more : (d n : ℕ) → suc d ≤ 4 → 10 ^ suc d ≤ n → n < 10 ^ suc (suc d) → Counts (digits (suc (suc d)) n) n
unfolding is_count within
counts_more d n k l h =
    record {
      count = rw (
        digits_length (suc (suc d)) n,
        le-leb 1 (suc (suc d)) (omega arith),
        le-leb (suc (suc d)) 5 (omega arith),
        digits_all (suc (suc d)) n,
        ne_eqb (get_or (digits (suc (suc d)) n) 0 0) 48 (digits_lead (suc d) n l h),
      );
      makes = number_digits (suc (suc d)) n h;
    }

counts : (d n : ℕ) → d ≤ 4 → n < 10 ^ suc d → Counts (decimal n) n
counts zero n k h = rw (decimal_one n h) (counts_one n h)
counts (suc d) n k h = go (ltb n (10 ^ suc d)) refl (counts d n (omega arith))
  where
    go : (b : Bool) → ltb n (10 ^ suc d) ≡ b → (n < 10 ^ suc d → Counts (decimal n) n) → Counts (decimal n) n
    go true e f = f (ltb-true n (10 ^ suc d) e)
    go false e f = let l = ltb-false n (10 ^ suc d) e in rw (decimal_digits d n l h) (counts_more d n k l h)

pub decimal_counts : (n : ℕ) → n < 100000 → Counts (decimal n) n
decimal_counts n h = counts 4 n (omega arith) h
