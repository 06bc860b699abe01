-- The loop's invariant: of the keys from index i on, and the one before them, the first misplaced is the whole list's.
use native.Mathlib.Omega.{arith}
use Rattle.tree.proofs.AdmissionLaws.{rising_start, rising_end, rising_turn, rising_stop}
use Rattle.tree.proofs.admission.ascending.Goals as goal

pub loop-i-init : goal.loop-i-init
loop-i-init c = (omega arith, omega arith, rising_start c.args.keys.now c.args.n (omega arith))

pub below-requires : goal.below-requires
below-requires c = tt

pub returns-then-not-below : goal.returns-then-not-below
returns-then-not-below c =
    let a = c.args in
    rw c.at.ensures (rising_stop a.keys.now a.n c.loop-i.i c.loop-i.invariant.2 (omega arith) (omega arith)
    c.below.result c.below.ensures (c.if-not-below.true))

pub loop-i-preserved : goal.loop-i-preserved
loop-i-preserved c =
    let a = c.args in (
      omega arith,
      omega arith,
      rising_turn a.keys.now a.n c.loop-i.i c.loop-i.invariant.2 (omega arith) (omega arith)
          c.below.result c.below.ensures (c.if-not-below.false),
    )

pub returns : goal.returns
returns c =
    let a = c.args in
    rising_end a.keys.now a.n c.loop-i.i c.loop-i.invariant.2 c.loop-i-test.false
