-- The order of octet strings is total, strict and transitive, and its test of equality is exact. Each law goes by the
-- first octets, then by the rest.
use mathlib.Core.Path.{◌≡◌, refl, sym, ap, ap₂, ◌∙◌}
use mathlib.Core.Bool.{true}
use mathlib.Core.List.{[], ◌∷◌}
use Prim.Native.Nat.compare
use Prim.Native.Nat.{ℕ, zero, suc, ◌<◌, suc-le-suc, compare, Ordering}
use native.Mathlib.Nat.{le_of_suc-le-suc, not-suc-le-zero}
use native.Mathlib.Omega.{arith}
use lib.Dec.{compare_is_eq}
use Rattle.octets.specs.Order.{Octets, or_else, order, same, is_less}

abbrev pub flip : Ordering → Ordering
flip Ordering.lt = Ordering.gt
flip Ordering.eq = Ordering.eq
flip Ordering.gt = Ordering.lt

-- Numbers

compare_eq : (a b : ℕ) → compare a b ≡ Ordering.eq → a ≡ b
compare_eq zero zero e = refl
compare_eq zero (suc b) e = cc (compare.zero-suc b)
compare_eq (suc a) zero e = cc (compare.suc-zero a)
compare_eq (suc a) (suc b) e = ap suc (compare_eq a b (sym (compare.suc-suc a b) ∙ e))

pub compare_refl : (a : ℕ) → compare a a ≡ Ordering.eq
compare_refl zero = compare.zero-zero
compare_refl (suc a) = compare.suc-suc a a ∙ compare_refl a

pub compare_flip : (a b : ℕ) → compare b a ≡ flip (compare a b)
compare_flip zero zero = cc compare.zero-zero
compare_flip zero (suc b) = cc (compare.zero-suc b, compare.suc-zero b)
compare_flip (suc a) zero = cc (compare.zero-suc a, compare.suc-zero a)
compare_flip (suc a) (suc b) = cc (compare.suc-suc a b, compare.suc-suc b a, compare_flip a b)

compare_lt : (a b : ℕ) → compare a b ≡ Ordering.lt → a < b
compare_lt zero zero e = let z : ◌≡◌ {A = ℕ} 0 1 = cc compare.zero-zero in omega arith
compare_lt zero (suc b) e = omega arith
compare_lt (suc a) zero e = let z : ◌≡◌ {A = ℕ} 0 1 = cc (compare.suc-zero a) in omega arith
compare_lt (suc a) (suc b) e = suc-le-suc (compare_lt a b (sym (compare.suc-suc a b) ∙ e))

pub lt_compare : (a b : ℕ) → a < b → compare a b ≡ Ordering.lt
lt_compare zero zero h = absurd (not-suc-le-zero h)
lt_compare zero (suc b) h = compare.zero-suc b
lt_compare (suc a) zero h = absurd (not-suc-le-zero h)
lt_compare (suc a) (suc b) h = compare.suc-suc a b ∙ lt_compare a b (le_of_suc-le-suc h)

compare_trans : (a b c : ℕ) → compare a b ≡ Ordering.lt → compare b c ≡ Ordering.lt → compare a c ≡ Ordering.lt
compare_trans a b c p q = lt_compare a c (omega (arith, compare_lt a b p, compare_lt b c q))

-- Octet strings

or_else_eq : (o p : Ordering) → or_else o p ≡ Ordering.eq → (o ≡ Ordering.eq) × (p ≡ Ordering.eq)
or_else_eq Ordering.lt p e = (e, cc)
or_else_eq Ordering.eq p e = (refl, e)
or_else_eq Ordering.gt p e = (e, cc)

pub order_eq : (a b : Octets) → order a b ≡ Ordering.eq → a ≡ b
unfolding order
order_eq [] [] e = refl
order_eq [] (b ∷ ys) e = cc
order_eq (a ∷ xs) [] e = cc
order_eq (a ∷ xs) (b ∷ ys) e =
    let h = or_else_eq (compare a b) (order xs ys) e in ap₂ ◌∷◌ (compare_eq a b h.0) (order_eq xs ys h.1)

pub order_refl : (a : Octets) → order a a ≡ Ordering.eq
unfolding order
order_refl [] = refl
order_refl (a ∷ xs) = rw (compare_refl a) (order_refl xs)

flip_or_else : (o p : Ordering) → or_else (flip o) (flip p) ≡ flip (or_else o p)
flip_or_else Ordering.lt p = refl
flip_or_else Ordering.eq p = refl
flip_or_else Ordering.gt p = refl

pub order_flip : (a b : Octets) → order b a ≡ flip (order a b)
unfolding order
order_flip [] [] = refl
order_flip [] (b ∷ ys) = refl
order_flip (a ∷ xs) [] = refl
order_flip (a ∷ xs) (b ∷ ys) = rw (compare_flip a b, order_flip xs ys) (flip_or_else (compare a b) (order xs ys))

-- a is below b, which is below c: at the first octets, or in the rest
trans_or_else : (a b c : ℕ) (p q r : Ordering) → (p ≡ Ordering.lt → q ≡ Ordering.lt → r ≡ Ordering.lt)
    → or_else (compare a b) p ≡ Ordering.lt → or_else (compare b c) q ≡ Ordering.lt → or_else (compare a c) r ≡ Ordering.lt
trans_or_else a b c p q r f e₁ e₂ = go (compare a b) (compare b c) refl refl e₁ e₂
  where
    go : (o₁ o₂ : Ordering) → compare a b ≡ o₁ → compare b c ≡ o₂ → or_else o₁ p ≡ Ordering.lt → or_else o₂ q ≡ Ordering.lt
        → or_else (compare a c) r ≡ Ordering.lt
    go Ordering.lt Ordering.lt h₁ h₂ e f' = rw (compare_trans a b c h₁ h₂)
    go Ordering.lt Ordering.eq h₁ h₂ e f' = rw (← compare_eq b c h₂, h₁)
    go Ordering.lt Ordering.gt h₁ h₂ e f' = cc
    go Ordering.eq Ordering.lt h₁ h₂ e f' = rw (compare_eq a b h₁, h₂)
    go Ordering.eq Ordering.eq h₁ h₂ e f' = rw (compare_eq a b h₁, h₂) (f e f')
    go Ordering.eq Ordering.gt h₁ h₂ e f' = cc
    go Ordering.gt Ordering.lt h₁ h₂ e f' = cc
    go Ordering.gt Ordering.eq h₁ h₂ e f' = cc
    go Ordering.gt Ordering.gt h₁ h₂ e f' = cc

pub order_trans : (a b c : Octets) → order a b ≡ Ordering.lt → order b c ≡ Ordering.lt → order a c ≡ Ordering.lt
unfolding order
order_trans [] [] c p q = cc
order_trans [] (b ∷ ys) [] p q = cc
order_trans [] (b ∷ ys) (c ∷ zs) p q = refl
order_trans (a ∷ xs) [] c p q = cc
order_trans (a ∷ xs) (b ∷ ys) [] p q = cc
order_trans (a ∷ xs) (b ∷ ys) (c ∷ zs) p q = trans_or_else a b c (order xs ys) (order ys zs) (order xs zs) (order_trans xs ys zs) p q

-- The test of equality

is_eq : (o : Ordering) → compare_is_eq o ≡ true → o ≡ Ordering.eq
is_eq Ordering.lt e = cc
is_eq Ordering.eq e = refl
is_eq Ordering.gt e = cc

pub same_true : (a b : Octets) → same a b ≡ true → a ≡ b
unfolding same
same_true a b e = order_eq a b (is_eq (order a b) e)

pub same_refl : (a : Octets) → same a a ≡ true
unfolding same
same_refl a = rw (order_refl a)

pub is_less_true : (o : Ordering) → is_less o ≡ true → o ≡ Ordering.lt
is_less_true Ordering.lt e = refl
is_less_true Ordering.eq e = cc
is_less_true Ordering.gt e = cc
