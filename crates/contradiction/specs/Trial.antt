-- 02 (vi): the keys that the drill tries: "as big-endian numbers upward from zero, the listed one skipped, at most 1,048,576 of them,
-- for a one-node tree with the same short label".
use Rattle.std.specs.Prelude.{Bool, cond, [], ◌∷◌, ℕ, zero, suc}
use Rattle.std.proofs.Math.Option.{Option, none, some}
use Rattle.octets.specs.Order.{Octets, same}
use Rattle.sha256.specs.Fips180.{octets}
use Rattle.profile.specs.Profile.{drill, label}
use Rattle.attester.specs.Label.{digest}
use Rattle.contradiction.specs.Outcome.{Outcome, Found, None}

-- "keys as big-endian numbers": the number n as a key
abbrev pub number_key : ℕ → Octets
number_key n = octets 20 n

-- "a one-node tree with the same short label": whether the number's has that of the key k
unfoldable pub alike : Octets → ℕ → Bool
alike k n = same (digest (label drill) (number_key n ∷ [])) (digest (label drill) (k ∷ []))

-- "the listed one skipped": n, or the number after it where n is the listed key k
unfoldable pub unlisted : Octets → ℕ → ℕ
unlisted k n = cond (same (number_key n) k) (suc n) n

-- the first number from n "upward" that is alike, with so many left to try
unfoldable pub first_alike : Octets → ℕ → ℕ → Option ℕ
first_alike k zero n = none
first_alike k (suc left) n = cond (alike k (unlisted k n)) (some (unlisted k n)) (first_alike k left (suc (unlisted k n)))

-- the number that was found, or that there is none
unfoldable pub trial_answer : Option ℕ → Outcome
trial_answer none = None
trial_answer (some n) = Found n
