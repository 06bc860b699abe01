-- What the reading of an attestation's sections answers: an offset to go on from, or refusal 7 and its place.
use Rattle.std.specs.Prelude.{List, ℕ, ◌-◌, eqb, length}
use Rattle.answer.specs.Answer.{Answer, Done, Refused}
use Rattle.answer.specs.Refusals as refusal
use Rattle.octets.specs.Order.{Octets}
use Rattle.attester.specs.Record.{Child}
use Rattle.attester.specs.Reader.{short, wrong, Read, got, stopped, Reader, ◌>>=◌, octet, block, many}
use Rattle.attester.specs.Form.{optional, is_count}

-- 01, step 2: of n octets, where a reading ended; "the offset of the first octet that can't stand there, or the length if it
-- ends early"
unfoldable pub read_answer : {A : Type 0} → ℕ → Read A → Answer
read_answer n (got v s) = Done (n - length s)
read_answer n (stopped short) = Refused refusal.form n
read_answer n (stopped (wrong left)) = Refused refusal.form (n - left)

-- 01, section "keys": "count K, one octet, 1 to 32", and K entries of w octets
unfoldable pub keys_section : ℕ → Reader (List Octets)
keys_section w = do
  k ← octet is_count
  many (block w) k

-- 01, section "siblings": their count, equal to m, and m optional labels
unfoldable pub siblings_section : ℕ → Reader (List Child)
siblings_section m = do
  n ← octet (λ n. eqb n m)
  many optional n
