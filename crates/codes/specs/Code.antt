-- 01, "Keys and codes": what a code is, and its key.
use Rattle.std.specs.Prelude.{Bool, true, ◌&&◌, ◌||◌, not, [], ◌∷◌, ◌++◌, ℕ, ◌-◌, leb, eqb, length, get_or, replicate}
use Rattle.octets.specs.Order.{Octets}

-- a number from a to b
unfoldable pub within : ℕ → ℕ → ℕ → Bool
within a b n = leb a n && leb n b

-- each octet passes the test
unfoldable pub all : (ℕ → Bool) → Octets → Bool
all test [] = true
all test (c ∷ s) = test c && all test s

-- 0-9 in ASCII
unfoldable pub digit : ℕ → Bool
digit c = within 48 57 c

-- A-Z in ASCII
unfoldable pub letter : ℕ → Bool
letter c = within 65 90 c

-- the hyphen in ASCII
unfoldable pub hyphen : ℕ → Bool
hyphen c = eqb c 45

-- "characters from 0-9, A-Z and hyphen"
unfoldable pub character : ℕ → Bool
character c = digit c || (letter c || hyphen c)

-- no hyphen next to another
unfoldable pub apart : Octets → Bool
apart [] = true
apart (c ∷ s) = not (hyphen c && hyphen (get_or s 0 0)) && apart s

-- "1 to 20 characters from 0-9, A-Z and hyphen; a hyphen is neither first nor last, nor next to another"
unfoldable pub is_code : Octets → Bool
is_code s =
    within 1 20 (length s)
    && (all character s && (not (hyphen (get_or s 0 0)) && (not (hyphen (get_or s (length s - 1) 0)) && apart s)))

-- "Its key is its ASCII octets, then zeros up to 20."
unfoldable pub key_of : Octets → Octets
key_of s = s ++ replicate (20 - length s) 0
