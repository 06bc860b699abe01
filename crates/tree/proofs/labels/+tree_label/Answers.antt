-- The measure is the number of octets, which falls in both halves. By induction both halves have the labels of their
-- subtrees, and the record of the root is put together of these, as the tree's own equation says.
use mathlib.Core.Path.{refl}
use native.Mathlib.Omega.{arith}
use lib.ListN.{length-take, length-drop}
use borrow.Author.Rules.{rules}
use Rattle.tree.proofs.LabelLaws.{label_of_none, label_of_node}
use Rattle.profile.specs.Profile as specs
use Rattle.profile.specs.Named.{number_of_profile}
use Rattle.tree.proofs.labels.+tree_label.Goals as goal

pub returns-then-n-eq0 : goal.returns-then-n-eq0
returns-then-n-eq0 t c = let a = c.args in label_of_none (specs.label (number_of_profile a.profile)) a.keys.now (omega arith)

pub slice_bounds-tree_label-end : goal.slice_bounds-tree_label-end
slice_bounds-tree_label-end t c = simp length-take (omega arith)

pub tree_label-left-requires : goal.tree_label-left-requires
tree_label-left-requires t c = (simp length-take (omega arith), tt)

pub tree_label-right-requires : goal.tree_label-right-requires
tree_label-right-requires t c = (simp (length-take, length-drop) (omega arith), tt)

pub node_label-requires : goal.node_label-requires
node_label-requires t c = (search rules, simp (length-take, length-drop) (omega arith), search rules)

pub returns : goal.returns
returns t c =
    let a = c.args in
    label_of_node (specs.label (number_of_profile a.profile)) a.keys.now (omega arith)
    c.tree_label-left.ensures c.tree_label-right.ensures c.flag-f.ensures refl c.node_label.ensures
