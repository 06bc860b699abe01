-- The loop's invariant: rec is the record on level j - 1, and the siblings that are left stand from offset at on.
use Prim.Native.Nat.{◌-◌}
use native.Mathlib.Omega.{arith}
use borrow.Author.Rules.{rules}
use Rattle.profile.specs.Profile.{label}
use Rattle.profile.specs.Named.{number_of_profile}
use Rattle.attestation.proofs.ShownLaws.{laid, key_length}
use Rattle.attestation.proofs.JudgeLaws.{risen_start, risen_inside, risen_next, risen_end}
use Rattle.attestation.proofs.judge.record_below.Goals as goal

pub loop-j-init : goal.loop-j-init
loop-j-init c = risen_start (label (number_of_profile c.args.profile)) c.args.x.now c.args.att.octets.now c.args.att.formed c.siblings-at.ensures c.foot_record-rec.ensures

pub above-rec-requires : goal.above-rec-requires
above-rec-requires c =
    let l = c.loop-j in
    let h = risen_inside (label (number_of_profile c.args.profile)) c.args.x.now c.args.att.octets.now (l.j - 1) l.at l.rec l.invariant (omega arith) in
    (h.inside, h.ends, rw c.key.ensures (key_length c.args.att.octets.now l.j (omega (arith, (laid c.args.att.formed).keys_in))), search rules)

pub behind-at-requires : goal.behind-at-requires
behind-at-requires c =
    let l = c.loop-j in
    (risen_inside (label (number_of_profile c.args.profile)) c.args.x.now c.args.att.octets.now (l.j - 1) l.at l.rec l.invariant (omega arith)).inside

pub loop-j-preserved : goal.loop-j-preserved
loop-j-preserved c =
    let l = c.loop-j in
    risen_next (label (number_of_profile c.args.profile)) c.args.x.now c.args.att.octets.now l.j l.at l.rec l.invariant (omega arith) (omega arith) c.key.ensures c.label-label.ensures c.above-rec.ensures c.behind-at.ensures

pub returns : goal.returns
returns c =
    let l = c.loop-j in
    risen_end (label (number_of_profile c.args.profile)) c.args.x.now c.args.att.octets.now (l.j - 1) l.at l.rec l.invariant c.args.below (omega arith)
