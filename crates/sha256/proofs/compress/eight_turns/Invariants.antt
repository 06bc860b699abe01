-- s is what the first i turns make of the state at the start.
use Rattle.std.proofs.Common.{◌≡◌}
use Rattle.sha256.specs.Fips180.{turns}
use Rattle.sha256.specs.declared.compress.State.{State}
use Rattle.sha256.proofs.compress.eight_turns.Given as goal

abbrev pub invariant-loop-i : goal.invariant-loop-i
invariant-loop-i l = (h : State) → l.initial.s ≡ turns h l.w l.t → l.s ≡ turns h l.w l.i
