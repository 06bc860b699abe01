-- 01, "The list as text": what reading answers and writes.
use Rattle.std.specs.Prelude.{◌≡◌, length}
use mathlib.Core.List.{[], flatten}
use Rattle.answer.specs.Answer.{Answer, Done, Refused, written}
use Rattle.octets.specs.Order.{Octets}
use Rattle.codes.specs.Text.{Reading, accepted, refused, reading}

-- "Reading answers the count"
unfoldable pub answer : Reading → Answer
answer (accepted ks) = Done (length ks)
answer (refused m p) = Refused m p

-- "and writes 20 octets per key into the lent buffer, the rest of which stays"
unfoldable pub keys : Reading → Octets
keys (accepted ks) = flatten ks
keys (refused m p) = []

-- what `read_list` promises of its answer r and of the lent buffer, `out` before and `out'` after
pub record Read (text out : Octets) (r : Answer) (out' : Octets) : Type 0 where
  pub answered : r ≡ answer (reading (length out) text)
  pub left : out' ≡ written r (keys (reading (length out) text)) out
