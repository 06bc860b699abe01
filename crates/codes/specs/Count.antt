-- 01, "The list as text": the count on the second line.
use Rattle.std.specs.Prelude.{Bool, ◌&&◌, ◌||◌, not, [], ◌∷◌, ℕ, ◌+◌, ◌-◌, ◌*◌, eqb, length, get_or}
use Rattle.octets.specs.Order.{Octets}
use Rattle.codes.specs.Code.{within, all, digit}

-- "in decimal: 1 to 5 digits, no leading zero, except that `0` itself is well formed"
unfoldable pub is_count : Octets → Bool
is_count s = within 1 5 (length s) && (all digit s && (not (eqb (get_or s 0 0) 48) || eqb (length s) 1))

-- the number that digits after n make: each digit moves what came before it up one place
unfoldable pub number_after : ℕ → Octets → ℕ
number_after n [] = n
number_after n (c ∷ s) = number_after (n * 10 + (c - 48)) s

-- the number that a count makes
unfoldable pub number : Octets → ℕ
number s = number_after 0 s
