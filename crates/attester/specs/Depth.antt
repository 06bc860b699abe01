-- Depth and bit length (01, "Tree, node record, digest").
use Rattle.std.specs.Prelude.{cond, ℕ, zero, suc, ◌/◌, ◌%◌, ◌^◌, max, eqb}
use Rattle.attester.specs.Tree.{Tree, leaf, node}

-- the levels of a tree
unfoldable pub depth : Tree → ℕ
depth leaf = 0
depth (node l e r) = suc (max (depth l) (depth r))

-- the highest one bit of n among its p lowest, by its position, counted from 1; 0 where they are all zeros
unfoldable pub highest : ℕ → ℕ → ℕ
highest zero n = 0
highest (suc p) n = cond (eqb (n / 2 ^ p % 2) 1) (suc p) (highest p n)

-- 01: "the bit length of n, the position of the highest one bit"; n has no one bit above its n lowest
unfoldable pub bit_length : ℕ → ℕ
bit_length n = highest n n
