-- The count is read, and then as many labels.
use mathlib.Core.Path.{sym, ap, ◌∙◌}
use native.Mathlib.Omega.{arith}
use lib.ListN.{length}
use Rattle.attestation.specs.Form.{read_answer}
use Rattle.attestation.proofs.ReadLaws.{answer_short, answer_wrong}
use Rattle.attestation.proofs.OptionalLaws.{siblings_end, siblings_wrong, siblings_many}
use Rattle.attestation.proofs.form.siblings_end.Goals as goal

pub returns-then-att-at : goal.returns-then-att-at
returns-then-att-at c =
    let a = c.args in
    rw c.at.ensures (answer_short a.att.now (siblings_end a.att.now a.at a.m (omega arith)))

pub returns-then-from-m : goal.returns-then-from-m
returns-then-from-m c =
    let a = c.args in
    rw c.at-then-from-m.ensures (answer_wrong a.att.now a.at (omega arith) (siblings_wrong a.att.now a.at a.m (omega arith) (λ e. omega arith)))

pub returns : goal.returns
returns c =
    let a = c.args in
    c.optionals_end.ensures ∙ ap (read_answer (length a.att.now)) (sym (siblings_many a.att.now a.at a.m (omega arith) (omega arith)))
