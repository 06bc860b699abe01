-- What a lent buffer holds after an accepted call.
use mathlib.Core.Path.{◌≡◌}
use mathlib.Core.List.{List, append-nil}
use Prim.Native.Nat.{ℕ}
use lib.ListN.{length}
use lib.Seq.{drop-length}
use Rattle.answer.specs.Answer.{Done, written}

-- what is as long as the buffer fills it
pub written_whole : (n : ℕ) (s out : List ℕ) → length s ≡ length out → written (Done n) s out ≡ s
unfolding written
written_whole n s out e = rw (e, drop-length out) (append-nil s)
