-- The promise of `depth` (01, "Tree, node record, digest").
use Rattle.std.specs.Prelude.{◌≡◌, List, ℕ, length}
use Rattle.octets.specs.Order.{Octets}
use Rattle.attester.specs.Tree.{tree}
use Rattle.attester.specs.Depth.{depth, bit_length}

-- 01: the tree of n keys has r levels; "Its depth is the bit length of n, the position of the highest one bit"
pub record DepthOf (n r : ℕ) : Type 0 where
  pub bits : r ≡ bit_length n
  pub levels : (keys : List Octets) → length keys ≡ n → depth (tree keys) ≡ r
