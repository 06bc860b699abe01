-- Any bound on the number of digits that is large enough gives the same ones, so a number's digits are those of a tenth of it, and the last.
use mathlib.Core.Path.{◌≡◌, refl}
use mathlib.Core.Bool.{Bool, true, false, cond}
use mathlib.Core.List.{[], ◌∷◌, ◌++◌}
use Prim.Native.Nat.{ℕ, zero, suc, ◌+◌, ◌/◌, ◌%◌, ◌^◌, ◌≤◌, ◌<◌}
use native.Mathlib.Nat.{pow-suc}
use native.Mathlib.Omega.{arith}
use borrow.Author.Tests.{lt-ltb, le-ltb, ltb-true, ltb-false}
use lib.Dec.{ltb}
use lib.ListN.{length, length-append}
use Rattle.show.specs.Decimal.{decimal_within, decimal}

decimal_enough : (d e n : ℕ) → n < d → n < e → decimal_within d n ≡ decimal_within e n
unfolding decimal_within
decimal_enough zero e n p q = absurd (omega arith)
decimal_enough (suc d) zero n p q = absurd (omega arith)
decimal_enough (suc d) (suc e) n p q = go (ltb n 10) refl (decimal_enough d e (n / 10))
  where
    go : (b : Bool) → ltb n 10 ≡ b → (n / 10 < d → n / 10 < e → decimal_within d (n / 10) ≡ decimal_within e (n / 10))
        → cond b [] (decimal_within d (n / 10)) ++ ((48 + n % 10) ∷ []) ≡ cond b [] (decimal_within e (n / 10)) ++ ((48 + n % 10) ∷ [])
    go true h f = refl
    go false h f = let l = ltb-false n 10 h in rw (f (omega arith) (omega arith))

pub decimal_one : (n : ℕ) → n < 10 → decimal n ≡ (48 + n % 10) ∷ []
unfolding decimal
decimal_one n h = rw (lt-ltb n 10 h)

pub decimal_more : (n : ℕ) → 10 ≤ n → decimal n ≡ decimal (n / 10) ++ ((48 + n % 10) ∷ [])
unfolding decimal
decimal_more n h = rw (le-ltb n 10 h, decimal_enough n (suc (n / 10)) (n / 10) (omega arith) (omega arith))

-- a number below 10 ^ d has at most d digits
pub decimal_length : (d n : ℕ) → n < 10 ^ suc d → length (decimal n) ≤ suc d
decimal_length zero n h = rw (decimal_one n (omega arith)) (omega arith)
decimal_length (suc d) n h = go (ltb n 10) refl (decimal_length d (n / 10))
  where
    go : (b : Bool) → ltb n 10 ≡ b → (n / 10 < 10 ^ suc d → length (decimal (n / 10)) ≤ suc d) → length (decimal n) ≤ suc (suc d)
    go true e f = rw (decimal_one n (ltb-true n 10 e)) (omega arith)
    go false e f =
        let p = pow-suc 10 (suc d) in
        let q = f (omega arith) in
        rw (decimal_more n (ltb-false n 10 e)) (simp length-append (omega arith))
