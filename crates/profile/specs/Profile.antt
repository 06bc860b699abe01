-- 02 (vi): the profiles, "chosen by a number from the caller: 0 for full, 1 for drill", and the label that a record has in each.
use Rattle.std.specs.Prelude.{Bool, cond, ◌||◌, ◌++◌, ℕ, eqb, take, replicate}
use Rattle.answer.specs.Refusals.{unknown_profile}
use Rattle.octets.specs.Order.{Octets}
use Rattle.sha256.specs.Fips180.{sha256}

abbrev pub full : ℕ
full = 0

abbrev pub drill : ℕ
drill = 1

-- whether there is a profile of this number
unfoldable pub known : ℕ → Bool
known profile = eqb profile full || eqb profile drill

-- 02 (vi): "the first 2 octets of the SHA-256 and then 30 zeros"
abbrev pub short : Octets → Octets
short hash = take 2 hash ++ replicate 30 0

-- what a label keeps of a hash: all of it; in the drill its short form
unfoldable pub kept : ℕ → Octets → Octets
kept profile hash = cond (eqb profile drill) (short hash) hash

-- a node's label, from its record: 01, "the SHA-256 of its record", and what the profile keeps of it
unfoldable pub label : ℕ → Octets → Octets
label profile r = kept profile (sha256 r)

-- 02 (vi): "17, an unknown profile, before all others"; else what is answered. A refusal is a number and a place, and 17 names none.
abbrev pub in_profile : {A : Type 0} → (ℕ → ℕ → A) → ℕ → A → A
in_profile Refused profile answered = cond (known profile) answered (Refused unknown_profile 0)
