-- Writing into a lent buffer at an offset.
use Rattle.std.specs.Prelude.{◌≡◌, ◌++◌, ℕ, ◌+◌, length, take, drop}
use Rattle.octets.specs.Order.{Octets}

-- d, with s from index `at` on
unfoldable pub put : Octets → ℕ → Octets → Octets
put d at s = take at d ++ s ++ drop (at + length s) d

-- o is what a call that wrote s into d at `at` left, and r the index past what it wrote
pub record Wrote (d : Octets) (at : ℕ) (s o : Octets) (r : ℕ) : Type 0 where
  pub ends : r ≡ at + length s
  pub left : o ≡ put d at s
