-- One number more, or the end of the search.
use native.Mathlib.Omega.{arith}
use Rattle.std.proofs.Common.{rules}
use Rattle.contradiction.proofs.TrialLaws.{searching_start, searching_none, number_small, tried_small, searching_found, searching_turn}
use Rattle.contradiction.proofs.trial.first_alike.Goals as goal

pub loop-init : goal.loop-init
loop-init c = let a = c.args in searching_start a.listed.now a.bound

pub unlisted-m-requires : goal.unlisted-m-requires
unlisted-m-requires c = number_small c.loop.invariant (omega arith) (omega arith)

pub overflow_cast-m : goal.overflow_cast-m
overflow_cast-m c = omega (arith, tried_small c.loop.invariant (omega arith) (omega arith) c.unlisted-m.ensures)

pub overflow_cast-result : goal.overflow_cast-result
overflow_cast-result c = omega (arith, tried_small c.loop.invariant (omega arith) (omega arith) c.unlisted-m.ensures)

pub returns-then-alike : goal.returns-then-alike
returns-then-alike c =
    searching_found c.loop.invariant (omega arith) (omega arith) c.unlisted-m.ensures
    (search rules) c.tree_label-d.ensures c.alike.ensures c.if-alike.true

pub overflow_add-n : goal.overflow_add-n
overflow_add-n c = omega (arith, tried_small c.loop.invariant (omega arith) (omega arith) c.unlisted-m.ensures)

pub loop-preserved : goal.loop-preserved
loop-preserved c =
    searching_turn c.loop.invariant (omega arith) (omega arith) c.unlisted-m.ensures
    (search rules) c.tree_label-d.ensures c.alike.ensures c.if-alike.false

pub returns : goal.returns
returns c = searching_none c.loop.invariant (omega arith)
