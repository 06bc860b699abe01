-- Three writes, one after the other, fill what is left of the 85 octets after the first.
use mathlib.Core.Path.{refl}
use native.Mathlib.Omega.{arith}
use Rattle.tree.proofs.LabelLaws.{record_written}
use Rattle.tree.proofs.labels.node_record.Goals as goal

pub returns : goal.returns
returns c = record_written refl (omega arith) c.put-at.ensures c.put-then.ensures c.put.ensures
