-- Each refusal's number, named once: 01, "Numbers a caller can meet", and 02.
use Rattle.std.specs.Prelude.{ℕ, ◌≤◌}

-- an argument has a size it may not have
abbrev pub size : ℕ
size = 1

-- no keys
abbrev pub no_keys : ℕ
no_keys = 2

-- key list not a multiple of 20 octets
abbrev pub ragged : ℕ
ragged = 3

-- over 3,000 keys
abbrev pub too_many : ℕ
too_many = 4

-- not strictly ascending
abbrev pub not_ascending : ℕ
not_ascending = 5

-- output too short
abbrev pub too_short : ℕ
too_short = 6

-- attestation form
abbrev pub form : ℕ
form = 7

-- child at the foot where x would be
abbrev pub child_at_foot : ℕ
child_at_foot = 8

-- x above the foot, or a key equal to the one below it on the path
abbrev pub key_above : ℕ
key_above = 9

-- digest differs
abbrev pub other_digest : ℕ
other_digest = 10

-- no contradiction
abbrev pub no_contradiction : ℕ
no_contradiction = 11

-- first or second line
abbrev pub head : ℕ
head = 12

-- not a code
abbrev pub not_a_code : ℕ
not_a_code = 13

-- lines and count disagree, or no LF
abbrev pub lines : ℕ
lines = 14

-- 02 (vi): more than one code for the drill
abbrev pub more_codes : ℕ
more_codes = 16

-- 02 (vi): an unknown profile
abbrev pub unknown_profile : ℕ
unknown_profile = 17

-- where a refusal's number lies: from 1 on, since 0 says that there is none, to the last one named here; 15 is not given
abbrev pub IsRefusal : ℕ → Type 0
IsRefusal m = (1 ≤ m) × (m ≤ unknown_profile)
