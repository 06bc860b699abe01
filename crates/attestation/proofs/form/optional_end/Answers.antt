-- Each end of the code is an end of the reading, by the octet of the count.
use native.Mathlib.Numerals.{add-one}
use native.Mathlib.Omega.{arith}
use Prim.Native.Nat.{suc, ◌+◌}
use Rattle.attester.proofs.OffsetLaws.{optional_end, optional_wrong, optional_none, optional_some, optional_cut}
use Rattle.attestation.proofs.ReadLaws.{answer_short, answer_wrong, answer_got}
use Rattle.attestation.proofs.form.optional_end.Goals as goal

pub returns-then-att-at : goal.returns-then-att-at
returns-then-att-at c =
    let a = c.args in
    rw c.at.ensures (answer_short a.att.now (optional_end a.att.now a.at (omega arith)))

pub returns-then-att-at-gt1 : goal.returns-then-att-at-gt1
returns-then-att-at-gt1 c =
    let a = c.args in
    rw c.at-then-att-at-gt1.ensures (answer_wrong a.att.now a.at (omega arith) (optional_wrong a.att.now a.at (omega arith) (omega arith)))

pub returns-then-att-at-eq0 : goal.returns-then-att-at-eq0
returns-then-att-at-eq0 c =
    let a = c.args in
    rw add-one (answer_got a.att.now (suc a.at) (omega arith) (optional_none a.att.now a.at (omega arith) (omega arith)))

pub returns-then-att-at-2 : goal.returns-then-att-at-2
returns-then-att-at-2 c =
    let a = c.args in
    rw c.at-then-att-at-2.ensures (answer_short a.att.now (optional_cut a.att.now a.at (omega arith) (omega arith) (omega arith)))

pub returns : goal.returns
returns c =
    let a = c.args in
    answer_got a.att.now (a.at + 33) (omega arith) (optional_some a.att.now a.at (omega arith) (omega arith))
