-- s is what the first 8 i turns make of the state at the start.
use Rattle.std.proofs.Common.{◌≡◌, ◌*◌}
use Rattle.sha256.specs.Fips180.{turns}
use Rattle.sha256.proofs.compress.turns.Given as goal

abbrev pub invariant-loop-i : goal.invariant-loop-i
invariant-loop-i l = l.s ≡ turns l.initial.s l.w (8 * l.i)
