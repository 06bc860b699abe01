-- The lines that are left, after i that were sound, tell what all the lines tell.
use Rattle.std.proofs.Common.{◌≡◌, ◌+◌, ◌-◌}
use Rattle.std.proofs.Math.Option.{none, some}
use Rattle.codes.specs.Text.{codes}
use Rattle.codes.specs.Read.{answer}
use Rattle.codes.proofs.TextLaws.{told}
use Rattle.codes.proofs.text.check_codes.Given as goal

abbrev pub invariant-loop-i : goal.invariant-loop-i
invariant-loop-i l = told l.i (codes (l.n - l.i) (3 + l.i) (some l.before) l.rest) ≡ answer (codes l.n 3 none l.text)
