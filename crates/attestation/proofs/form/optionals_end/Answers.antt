-- The loop's invariant: the labels that are left, from the offset reached on, end where all the labels do.
use mathlib.Core.Path.{◌≡◌, refl, sym, ◌∙◌}
use Prim.Native.Nat.{◌+◌, ◌-◌}
use native.Mathlib.Omega.{arith}
use lib.ListN.{length, drop}
use Rattle.answer.proofs.HandedLaws.{handed_on}
use Rattle.attester.specs.Reader.{many}
use Rattle.attester.specs.Form.{optional}
use Rattle.attestation.proofs.ReadLaws.{answer_stopped}
use Rattle.attestation.proofs.OptionalLaws.{optional_done, optional_near, labels_none, labels_stop, labels_next}
use Rattle.attestation.proofs.form.optionals_end.Goals as goal

pub loop-read-init : goal.loop-read-init
loop-read-init c =
    let all : c.args.m - 0 ≡ c.args.m = omega arith in
    (omega arith, omega arith, rw all)

pub optional_end-requires : goal.optional_end-requires
optional_end-requires c = (omega arith, omega arith)

pub returns-in_err-end : goal.returns-in_err-end
returns-in_err-end c =
    let l = c.loop-read in
    let a = c.args.att.now in
    let left = c.args.m - l.read in
    rw (handed_on c.from_residual.result c.from_residual.ensures.1)
    (answer_stopped (length a) (optional (drop l.end a)) c.in_err-end.ensures (many optional left (drop l.end a))
    (labels_stop a l.end left (omega arith)) refl
    ∙ sym l.invariant.2)

pub loop-read-preserved : goal.loop-read-preserved
loop-read-preserved c =
    let l = c.loop-read in
    let a = c.args.att.now in
    let o = optional_done a l.end (omega arith) c.in_ok-end.ensures refl in
    let one_less : c.args.m - (l.read + 1) ≡ c.args.m - l.read - 1 = omega arith in
    (o.inside, omega (arith, optional_near a l.end o), rw one_less (l.invariant.2 ∙ labels_next a l.end (c.args.m - l.read) (omega arith) o))

pub returns : goal.returns
returns c =
    let l = c.loop-read in
    labels_none c.args.att.now l.end (c.args.m - l.read) (omega arith) (omega arith) ∙ sym l.invariant.2
