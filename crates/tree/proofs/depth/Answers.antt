-- In 32 bits, what is left of the leading zeros of n is its bit length, which is the depth of every tree of n keys.
use mathlib.Core.Path.{◌≡◌, sym, ap, ◌∙◌}
use Prim.Native.Nat.{ℕ}
use lib.Count.{leading_le}
use Rattle.attester.specs.Depth.{bit_length}
use Rattle.attester.proofs.DepthLaws.{bit_length_leading_zeros, depth_of_tree}
use Rattle.tree.specs.Depth.{DepthOf}
use Rattle.tree.proofs.depth.Goals as goal

depth-of : (n r : ℕ) → r ≡ bit_length n → DepthOf n r
depth-of n r e = record { bits = e; levels = λ keys m. depth_of_tree keys ∙ (ap bit_length m ∙ sym e) }

pub overflow_sub-result : goal.overflow_sub-result
overflow_sub-result c = leading_le 32 c.args.n

pub returns : goal.returns
returns c = depth-of c.args.n _ (bit_length_leading_zeros 32 c.args.n c.ranges.n.fits)
