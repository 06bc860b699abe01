-- No number, or the first that is alike, handed over.
use mathlib.Core.Path.{refl}
use Rattle.answer.proofs.HandedLaws.{handed_on}
use Rattle.contradiction.proofs.HandedLaws.{handed_found, handed_refused}
use Rattle.contradiction.proofs.DrilledLaws.{contradict_none, contradict_found}
use Rattle.contradiction.proofs.contradict.Goals as goal

pub returns-in_default : goal.returns-in_default
returns-in_default c =
    let a = c.args in
    contradict_none a.listed.now a.out1.now a.out2.now a.bound c.in_default.ensures

pub returns-in_err-hand_over : goal.returns-in_err-hand_over
returns-in_err-hand_over c =
    let a = c.args in
    rw (handed_on c.from_residual.result c.from_residual.ensures.1)
    (contradict_found a.listed.now a.out1.now a.out2.now a.bound c.in-Some.ensures
    (handed_refused a.listed.now c.in-Some.n c.requires.0 c.requires.1 c.in_err-hand_over.ensures refl))

pub returns : goal.returns
returns c =
    let a = c.args in
    contradict_found a.listed.now a.out1.now a.out2.now a.bound c.in-Some.ensures
    (handed_found a.listed.now c.in-Some.n c.requires.0 c.requires.1 c.in_ok-hand_over.ensures refl)
