-- 01, "The program": how a refused list is printed.
use Rattle.std.specs.Prelude.{[], ◌∷◌, ◌++◌, ℕ}
use Rattle.octets.specs.Order.{Octets}
use Rattle.show.specs.Decimal.{decimal}

-- "refused" and a space in ASCII
abbrev pub refused_word : Octets
refused_word = 114 ∷ 101 ∷ 102 ∷ 117 ∷ 115 ∷ 101 ∷ 100 ∷ 32 ∷ []

-- "`refused`, the number and the place. Fields are parted by one space; LF ends the line."
unfoldable pub refusal_line : ℕ → ℕ → Octets
refusal_line m p = refused_word ++ decimal m ++ (32 ∷ []) ++ decimal p ++ (10 ∷ [])
