-- The digits that are left, after the number so far, make the number of them all.
use Rattle.std.proofs.Common.{◌≡◌, drop}
use Rattle.codes.specs.Count.{number_after, number}
use Rattle.codes.proofs.count.number.Given as goal

abbrev pub invariant-loop-c : goal.invariant-loop-c
invariant-loop-c l = number_after l.n (drop l.c-index l.s) ≡ number l.s
