-- Octets as lower-case hex digits, in ASCII.
use Rattle.std.specs.Prelude.{cond, [], ◌∷◌, ℕ, ◌+◌, ◌/◌, ◌%◌, ltb}
use Rattle.octets.specs.Order.{Octets}

-- 0-9, then a-f
unfoldable pub hex_digit : ℕ → ℕ
hex_digit n = cond (ltb n 10) (48 + n) (87 + n)

-- two digits an octet, the higher half first
unfoldable pub hex : Octets → Octets
hex [] = []
hex (c ∷ s) = hex_digit (c / 16) ∷ hex_digit (c % 16) ∷ hex s
