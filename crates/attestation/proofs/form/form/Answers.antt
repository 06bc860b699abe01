-- A section's refusal is the form's; and where each section was read, the form is whole or octets are left.
use mathlib.Core.Path.{refl}
use native.Mathlib.Omega.{arith}
use Rattle.answer.proofs.HandedLaws.{handed_on}
use Rattle.attestation.proofs.FormLaws.{keys_refused, keys_count, keys_inside, left_refused, left_inside, right_refused, right_inside, siblings_refused, form_left_over, form_whole}
use Rattle.attestation.proofs.form.form.Goals as goal

pub returns-in_err-keys : goal.returns-in_err-keys
returns-in_err-keys c =
    rw (handed_on c.from_residual.result c.from_residual.ensures.1) (keys_refused c.args.att.now c.in_err-keys.ensures refl)

pub optional_end-requires : goal.optional_end-requires
optional_end-requires c =
    let h = keys_inside c.args.att.now c.in_ok-keys.ensures refl in
    (h.1, omega arith)

pub returns-in_err-left : goal.returns-in_err-left
returns-in_err-left c =
    rw (handed_on c.from_residual-in_err-left.result c.from_residual-in_err-left.ensures.1)
    (left_refused c.args.att.now c.in_ok-keys.ensures refl c.in_err-left.ensures refl)

pub optional_end-requires-2 : goal.optional_end-requires-2
optional_end-requires-2 c =
    let h = left_inside c.args.att.now c.in_ok-keys.ensures refl c.in_ok-left.ensures refl in
    (h.0, omega arith)

pub returns-in_err-right : goal.returns-in_err-right
returns-in_err-right c =
    rw (handed_on c.from_residual-in_err-right.result c.from_residual-in_err-right.ensures.1)
    (right_refused c.args.att.now c.in_ok-keys.ensures refl c.in_ok-left.ensures refl c.in_err-right.ensures refl)

pub bounds-att-0 : goal.bounds-att-0
bounds-att-0 c =
    let h = keys_inside c.args.att.now c.in_ok-keys.ensures refl in
    omega arith

pub overflow_sub-from : goal.overflow_sub-from
overflow_sub-from c = omega (arith, keys_count c.args.att.now c.in_ok-keys.ensures refl, c.from.ensures)

pub siblings_end-requires : goal.siblings_end-requires
siblings_end-requires c =
    let n = keys_count c.args.att.now c.in_ok-keys.ensures refl in
    let h = right_inside c.args.att.now c.in_ok-keys.ensures refl c.in_ok-left.ensures refl c.in_ok-right.ensures refl in
    (h.0, omega (arith, n, h, c.from.ensures))

pub returns-in_err-end : goal.returns-in_err-end
returns-in_err-end c =
    rw (handed_on c.from_residual-in_err-end.result c.from_residual-in_err-end.ensures.1)
    (siblings_refused c.args.att.now c.in_ok-keys.ensures refl c.in_ok-left.ensures refl c.in_ok-right.ensures refl (rw (← c.from.ensures) c.in_err-end.ensures) refl)

pub returns-then-end-att : goal.returns-then-end-att
returns-then-end-att c =
    rw c.at.ensures (form_left_over c.args.att.now c.in_ok-keys.ensures refl c.in_ok-left.ensures refl c.in_ok-right.ensures refl (rw (← c.from.ensures) c.in_ok-end.ensures) refl c.if-end-att.true)

pub returns : goal.returns
returns c = form_whole c.args.att.now c.in_ok-keys.ensures refl c.in_ok-left.ensures refl c.in_ok-right.ensures refl (rw (← c.from.ensures) c.in_ok-end.ensures) refl c.if-end-att.false
