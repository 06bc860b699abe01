-- What the admission of a key list answers.
use Rattle.std.specs.Prelude.{List, [], length}
use Rattle.answer.specs.Answer.{Answer, Done, Refused}
use Rattle.octets.specs.Order.{Octets}
use Rattle.attester.specs.Admission.{Admission, admitted, refused}

-- 01, "Numbers a caller can meet": "the number of keys", or the refusal
abbrev pub answer_of : Admission → Answer
answer_of (admitted es) = Done (length es)
answer_of (refused m p) = Refused m p

-- the entries that were admitted; none of a refused list
abbrev pub entries_of : Admission → List Octets
entries_of (admitted es) = es
entries_of (refused m p) = []
