-- The loop's invariant: below level j no fault was found.
use mathlib.Core.Path.{sym, ◌∙◌}
use Prim.Native.Nat.{◌-◌}
use native.Mathlib.Omega.{arith}
use Rattle.attestation.proofs.ShownLaws.{laid}
use Rattle.attestation.proofs.JudgeLaws.{clean_start, clean_end, key_fault, equal_fault, no_fault}
use Rattle.attestation.proofs.judge.fault.Goals.{then-same-via-then-same, then-same-via-else-same+then-same-2}
use Rattle.attestation.proofs.judge.fault.Goals as goal

pub loop-j-init : goal.loop-j-init
loop-j-init c = clean_start c.args.x.now c.args.att.octets.now c.args.att.formed

pub returns-then-same-clause-smallest : goal.returns-then-same-clause-smallest
returns-then-same-clause-smallest c =
    elim c.then-same.branch [
      | then-same-via-then-same w ↦
          key_fault c.args.x.now c.args.att.octets.now c.loop-j.j c.loop-j.invariant (omega arith) (omega arith) c.key-k.ensures (sym c.same.ensures ∙ w.if-same.true)
      | then-same-via-else-same+then-same-2 w ↦
          equal_fault c.args.x.now c.args.att.octets.now c.loop-j.j c.loop-j.invariant (omega arith) (omega arith) c.key-k.ensures w.key.ensures (sym w.same-else-same.ensures ∙ w.if-same-2.true)
    ]

pub loop-j-preserved : goal.loop-j-preserved
loop-j-preserved c =
    no_fault c.args.x.now c.args.att.octets.now c.loop-j.j c.loop-j.invariant (omega arith) (omega arith) c.key-k.ensures c.key.ensures (sym c.same.ensures ∙ c.if-same.false) (sym c.same-else-same.ensures ∙ c.if-same-2.false)

pub returns-clause-smallest : goal.returns-clause-smallest
returns-clause-smallest c =
    clean_end c.args.x.now c.args.att.octets.now (c.loop-j.j - 1) c.loop-j.invariant (omega (arith, (laid c.args.att.formed).some_key))
