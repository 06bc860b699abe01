-- What the code's `Writer` has room for, and what a call leaves of it.
use Rattle.std.specs.Prelude.{◌≡◌, ◌+◌, ◌≤◌, length}
use Rattle.octets.specs.declared.Writer.{Writer}
use Rattle.octets.specs.Order.{Octets}
use Rattle.octets.specs.Put.{Wrote}

-- s fits behind what is written
abbrev pub HasRoom : Writer → Octets → Type 0
HasRoom w s = w.at + length s ≤ length w.out.now

-- a call that wrote s left w' of w: in the same buffer, at w's place, and the next place is behind it
pub record Writes (w : Writer) (s : Octets) (w' : Writer) : Type 0 where
  pub buffer : w'.out.ghost_name ≡ w.out.ghost_name
  pub wrote : Wrote w.out.now w.at s w'.out.now w'.at
