-- The two sides of the record; equality goes left, as the definition says.
use mathlib.Core.Path.{sym, ◌∙◌}
use native.Mathlib.Omega.{arith}
use Rattle.attester.specs.Record.{node_record, flag, child_octets}
use Rattle.attestation.specs.Shown.{child_at}
use Rattle.attestation.proofs.ShownLaws.{child_bit}
use Rattle.attestation.proofs.JudgeLaws.{join_left, join_right}
use Rattle.attestation.proofs.judge.above.Goals as goal

pub returns-then-is_gt : goal.returns-then-is_gt
unfolding node_record flag child_octets
returns-then-is_gt c =
    rw (join_right c.args.x.now c.args.k.now (child_at c.args.att.octets.now c.args.at) c.args.label.now c.requires.2 c.compare.result c.compare.ensures (sym c.is_gt.ensures ∙ c.if-is_gt.true))
    (grind (arith, child_bit))

pub returns-else-is_gt : goal.returns-else-is_gt
unfolding node_record flag child_octets
returns-else-is_gt c =
    rw (join_left c.args.x.now c.args.k.now (child_at c.args.att.octets.now c.args.at) c.args.label.now c.requires.2 c.compare.result c.compare.ensures (sym c.is_gt.ensures ∙ c.if-is_gt.false))
    (grind (arith, child_bit))
