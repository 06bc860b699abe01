-- The digits that are left, after the number so far, make the number of them all; and that never falls, so the number so far fits.
use Rattle.std.proofs.Common.{arith, refl}
use Rattle.codes.specs.Count.{number}
use Rattle.codes.proofs.CountLaws.{number_turn, number_end, number_few}
use Rattle.codes.proofs.count.number.Goals as goal

pub loop-c-init : goal.loop-c-init
unfolding number
loop-c-init c = refl

pub overflow_sub-c : goal.overflow_sub-c
overflow_sub-c c = (number_turn c.args.s.now c.loop-c.n c.loop-c.c-index c.requires c.loop-c-test.true c.loop-c.invariant).least

pub overflow_mul-n : goal.overflow_mul-n
overflow_mul-n c = omega (arith, number_turn c.args.s.now c.loop-c.n c.loop-c.c-index c.requires c.loop-c-test.true c.loop-c.invariant)

pub overflow_add-n : goal.overflow_add-n
overflow_add-n c = omega (arith, number_turn c.args.s.now c.loop-c.n c.loop-c.c-index c.requires c.loop-c-test.true c.loop-c.invariant)

pub loop-c-preserved : goal.loop-c-preserved
loop-c-preserved c = rw c.from.ensures (number_turn c.args.s.now c.loop-c.n c.loop-c.c-index c.requires c.loop-c-test.true c.loop-c.invariant).left

pub returns : goal.returns
returns c =
    let e = number_end c.args.s.now c.loop-c.n c.loop-c.c-index c.loop-c-test.false c.loop-c.invariant in
    (e, omega (arith, number_few c.args.s.now c.requires))
