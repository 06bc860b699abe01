-- The loop starts with all lines and ends with none; what is there after them is left over.
use Rattle.std.proofs.Common.{arith}
use Rattle.std.proofs.lemmas.Bool.Decides.{nat_tests}
use Rattle.std.proofs.lemmas.Result.{err_from_is_err_and}
use Rattle.codes.proofs.TextLaws.{judge_start, judge_turn, judge_fault, judge_left_over, judge_done}
use Rattle.codes.proofs.text.check_codes.Goals as goal

pub loop-i-init : goal.loop-i-init
loop-i-init c = judge_start c.args.n c.args.text.now

pub returns-in_err-before : goal.returns-in_err-before
returns-in_err-before c =
    let l = c.loop-i in
    let e = c.in_err-before.ensures in
    let p = err_from_is_err_and c.from_residual.result c.from_residual.ensures.1 in
    rw (p.1, p.2, e.2) (judge_fault c.args.n l.i l.rest.now l.before _ l.invariant (omega arith) _ e.0 e.1)

pub loop-i-preserved : goal.loop-i-preserved
loop-i-preserved c =
    let l = c.loop-i in
    let e = c.in_ok-before.ensures in
    judge_turn c.args.n l.i l.rest.now l.before _ l.invariant (omega arith) e.0 e.1 e.2

pub returns-then-not-is_empty : goal.returns-then-not-is_empty
returns-then-not-is_empty c =
    let l = c.loop-i in
    rw c.at.ensures (judge_left_over c.args.n l.i l.rest.now l.before _ l.invariant (omega arith) (omega arith) (grind (arith, nat_tests)))

pub returns : goal.returns
returns c =
    let l = c.loop-i in
    judge_done c.args.n l.i l.rest.now l.before _ l.invariant (omega arith) (omega arith) (grind (arith, nat_tests))
