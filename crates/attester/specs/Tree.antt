-- The tree of a list (01, "Tree, node record, digest").
use Rattle.std.specs.Prelude.{List, [], ◌∷◌, ℕ, zero, suc, ◌/◌, length, take, drop, get_or}
use Rattle.octets.specs.Order.{Octets}

-- 01: "no keys, no subtree"; or a left subtree, an entry, a right subtree
pub data Tree : Type 0 where
  leaf : Tree
  node : Tree → Octets → Tree → Tree

-- 01: the root is the entry at floor(n / 2), those before it form the left subtree, those after it the right.
-- The first number bounds how deep the rule is followed.
unfoldable pub tree_within : ℕ → List Octets → Tree
tree_within zero es = leaf
tree_within (suc d) [] = leaf
tree_within (suc d) (e ∷ es) =
    node (tree_within d (take (length (e ∷ es) / 2) (e ∷ es)))
    (get_or (e ∷ es) (length (e ∷ es) / 2) [])
    (tree_within d (drop (suc (length (e ∷ es) / 2)) (e ∷ es)))

-- 01: the tree of a list; no tree is deeper than its entries are many
unfoldable pub tree : List Octets → Tree
unfolding tree_within
tree es = tree_within (length es) es
