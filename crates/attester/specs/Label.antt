-- Labels and the digest (01, "Tree, node record, digest"), over any function H from records to labels.
use Rattle.std.specs.Prelude.{List}
use Rattle.std.proofs.Math.Option.{none, some}
use Rattle.octets.specs.Order.{Octets}
use Rattle.attester.specs.Record.{Child, child_octets, node_record}
use Rattle.attester.specs.Tree.{Tree, leaf, node, tree}

module _ (H : Octets → Octets) where
  -- 01: "A node's label is the SHA-256 of its record", with H for SHA-256
  unfoldable pub label : Tree → Child
  label leaf = none
  label (node l e r) = some (H (node_record (label l) e (label r)))

  -- 01: "the digest is the root's label"
  unfoldable pub digest : List Octets → Octets
  digest es = child_octets (label (tree es))
