-- The promise of `hash` (01: "Hashing answers 1 for a message over 65,535 octets or an output not of 32").
use Rattle.std.specs.Prelude.{◌≡◌, ℕ, cond, not, ◌||◌, length, ◌==◌, nat_lt}
use Rattle.answer.specs.Answer.{written, Answer, Done, Refused}
use Rattle.answer.specs.Refusals.{size}
use Rattle.octets.specs.Order.{Octets}
use Rattle.sha256.specs.Fips180.{sha256}

-- the answer to a message, with an output of n octets: the refusal names no place, and an accepted hash answers the message's length
unfoldable pub hash_answer : Octets → ℕ → Answer
hash_answer msg n = cond (nat_lt 65535 (length msg) || not (n == 32)) (Refused size 0) (Done (length msg))

-- r is the answer to msg with the output out, and out' what the output then holds
pub record Hashed (msg out : Octets) (r : Answer) (out' : Octets) : Type 0 where
  pub answered : r ≡ hash_answer msg (length out)
  pub left : out' ≡ written r (sha256 msg) out
