-- Each end of the code is an end of the judgement, step by step.
use mathlib.Core.Path.{sym, ◌∙◌}
use Rattle.profile.specs.Profile.{label}
use Rattle.profile.specs.Named.{number_of_profile}
use Rattle.attestation.proofs.JudgeLaws.{judged_hidden, judged_fault, judged_other, judged_present, judged_absent}
use Rattle.attestation.proofs.judge.judgement.Goals as goal

pub returns-then-hidden : goal.returns-then-hidden
returns-then-hidden c =
    rw c.at.ensures (judged_hidden (label (number_of_profile c.args.profile)) c.args.x.now c.args.d.now c.args.att.octets.now c.hidden.ensures c.if-hidden.true)

pub returns-in-Some : goal.returns-in-Some
returns-in-Some c =
    rw c.at-in-Some.ensures (judged_fault (label (number_of_profile c.args.profile)) c.args.x.now c.args.d.now c.args.att.octets.now c.hidden.ensures c.if-hidden.false c.in-Some.ensures.smallest)

pub returns-then-not-same : goal.returns-then-not-same
returns-then-not-same c =
    rw c.at-then-not-same.ensures (judged_other (label (number_of_profile c.args.profile)) c.args.x.now c.args.d.now c.args.att.octets.now c.hidden.ensures c.if-hidden.false c.in_default.ensures.smallest c.record_below.ensures c.label-root.ensures
    (sym c.same.ensures ∙ c.if-not-same.true))

pub returns-then-same : goal.returns-then-same
returns-then-same c =
    judged_present (label (number_of_profile c.args.profile)) c.args.x.now c.args.d.now c.args.att.octets.now c.hidden.ensures c.if-hidden.false c.in_default.ensures.smallest c.record_below.ensures c.label-root.ensures
    (sym c.same.ensures ∙ c.if-not-same.false) c.args.att.formed c.key.ensures (sym c.same-2.ensures ∙ c.if-same.true)

pub returns-else-same : goal.returns-else-same
returns-else-same c =
    judged_absent (label (number_of_profile c.args.profile)) c.args.x.now c.args.d.now c.args.att.octets.now c.hidden.ensures c.if-hidden.false c.in_default.ensures.smallest c.record_below.ensures c.label-root.ensures
    (sym c.same.ensures ∙ c.if-not-same.false) c.args.att.formed c.key.ensures (sym c.same-2.ensures ∙ c.if-same.false)
