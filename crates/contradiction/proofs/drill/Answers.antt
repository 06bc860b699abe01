-- Each end of the code is an end of the promise: a size that may not be, a refusal handed on, more than one code, and the drill with
-- the one key.
use mathlib.Core.Path.{refl}
use native.Mathlib.Omega.{arith}
use Prim.Native.Nat.{ℕ}
use lib.ListN.{length-replicate}
use Rattle.answer.proofs.HandedLaws.{handed_on}
use Rattle.contradiction.proofs.DrilledLaws.{drilled_first_size, drilled_second_size, drilled_refused, drilled_more, drilled_one}
use Rattle.contradiction.proofs.drill.Goals.{then-out1-ne85-via-then-out1-ne85, then-out1-ne85-via-else-out1-ne85+then-out2-ne85}
use Rattle.contradiction.proofs.drill.Goals as goal

pub returns-then-out1-ne85 : goal.returns-then-out1-ne85
returns-then-out1-ne85 c =
    let a = c.args in
    rw c.at.ensures
    (elim c.then-out1-ne85.branch [
      | then-out1-ne85-via-then-out1-ne85 w ↦ drilled_first_size a.text.now a.bound a.out1.now a.out2.now w.if-out1-ne85.true
      | then-out1-ne85-via-else-out1-ne85+then-out2-ne85 w ↦ drilled_second_size a.text.now a.bound a.out1.now a.out2.now w.if-out1-ne85.false w.if-out2-ne85.true
    ])

pub returns-in_err-n : goal.returns-in_err-n
returns-in_err-n c =
    let a = c.args in
    rw (handed_on c.from_residual.result c.from_residual.ensures.1)
    (drilled_refused a.text.now a.bound a.out1.now a.out2.now c.if-out1-ne85.false c.if-out2-ne85.false (length-replicate {A = ℕ} 60000 0) c.in_err-n.ensures refl)

pub returns-then-n-gt1 : goal.returns-then-n-gt1
returns-then-n-gt1 c =
    let a = c.args in
    rw c.at-then-n-gt1.ensures
    (drilled_more a.text.now a.bound a.out1.now a.out2.now c.if-out1-ne85.false c.if-out2-ne85.false (length-replicate {A = ℕ} 60000 0) c.in_ok-n.ensures refl c.if-n-gt1.true)

pub returns : goal.returns
returns c =
    let a = c.args in
    drilled_one a.text.now a.bound a.out1.now a.out2.now c.if-out1-ne85.false c.if-out2-ne85.false
    (length-replicate {A = ℕ} 60000 0) c.in_ok-n.ensures refl (rw (← c.copy_from_slice.ensures.after) c.contradict.ensures) (omega arith)
