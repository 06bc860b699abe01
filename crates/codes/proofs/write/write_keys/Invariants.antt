-- After i lines their keys are written, and those of the lines that are left make up the whole.
use Rattle.std.proofs.Math.Option.{none}
use Rattle.codes.specs.Text.{codes}
use Rattle.codes.specs.Read.{keys}
use Rattle.codes.proofs.WriteLaws.{Writing}
use Rattle.codes.proofs.write.write_keys.Given as goal

abbrev pub invariant-loop-i : goal.invariant-loop-i
invariant-loop-i l = Writing l.n (keys (codes l.n 3 none l.lines)) l.initial.out l.out l.rest l.i
