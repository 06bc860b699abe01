-- The number of octets falls in both halves.
use lib.ListN.{length}
use Rattle.tree.proofs.labels.+tree_label.Given as goal

abbrev pub decreases-tree_label : goal.decreases-tree_label
decreases-tree_label l = length l.keys.now
