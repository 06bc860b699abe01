-- A number in decimal, in ASCII, without leading zeros.
use Rattle.std.specs.Prelude.{cond, [], ◌∷◌, ◌++◌, ℕ, zero, suc, ◌+◌, ◌/◌, ◌%◌, ltb}
use Rattle.octets.specs.Order.{Octets}

-- the last digit, after those of a tenth of the number where there are more; the first number bounds how many there are
unfoldable pub decimal_within : ℕ → ℕ → Octets
decimal_within zero n = []
decimal_within (suc d) n = cond (ltb n 10) [] (decimal_within d (n / 10)) ++ ((48 + n % 10) ∷ [])

-- a number has no more digits than one more than itself
unfoldable pub decimal : ℕ → Octets
unfolding decimal_within
decimal n = decimal_within (suc n) n
