-- The depth of the tree of n entries, the bit length of n, and the leading zeros of n are each fixed by the power of two
-- that n reaches: 2 ^ b ≤ n < 2 ^ (b + 1).
use mathlib.Core.Path.{◌≡◌, refl}
use mathlib.Core.Logic.{◌⊎◌, inl, inr}
use mathlib.Core.List.{List, [], ◌∷◌}
use Prim.Native.Nat.{ℕ, zero, suc, ◌+◌, ◌-◌, ◌/◌, ◌^◌, ◌≤◌, ◌<◌}
use native.Mathlib.Nat.{add-zero, not-suc-le-zero, le_of_suc-le-suc, lt_of_lt_of_le, eq-or-lt_of_le, div-eq_of_lt, div-eq_of_lt-le}
use native.Mathlib.Omega.{arith}
use lib.Count.{count_leading_zeros, leading_of_zero, leading_top}
use lib.ListN.{length, take, drop, length-take, length-drop}
use lib.Pow.{pow_pos, pow_mono}
use Rattle.octets.specs.Order.{Octets}
use Rattle.attester.specs.Tree.{tree}
use Rattle.attester.specs.Depth.{depth, highest, bit_length}
use Rattle.attester.proofs.TreeLaws.{tree_none, tree_node}

-- fewer than 2 ^ b entries take at most b levels
pub depth_most : (b : ℕ) (es : List Octets) → length es < 2 ^ b → depth (tree es) ≤ b
unfolding depth
depth_most zero [] h = rw tree_none (omega arith)
depth_most zero (e ∷ es) h = absurd (omega arith)
depth_most (suc b) [] h = rw tree_none (omega arith)
depth_most (suc b) (e ∷ es) h =
    let l = depth_most b (take (length (e ∷ es) / 2) (e ∷ es)) (simp length-take (omega arith)) in
    let r = depth_most b (drop (suc (length (e ∷ es) / 2)) (e ∷ es)) (simp length-drop (omega arith)) in
    rw (tree_node (e ∷ es) (omega arith)) (omega arith)

-- 2 ^ b entries take more than b levels
pub depth_least : (b : ℕ) (es : List Octets) → 2 ^ b ≤ length es → b < depth (tree es)
unfolding depth
depth_least zero es h = rw (tree_node es (omega arith)) (omega arith)
depth_least (suc b) es h =
    let l = depth_least b (take (length es / 2) es) (simp length-take (omega arith)) in
    rw (tree_node es (omega (arith, pow_pos b))) (omega arith)

-- between 2 ^ b and 2 ^ (b + 1) bit b is a one, and those above are zeros
top_bit : (b n : ℕ) → 2 ^ b ≤ n → n < 2 ^ suc b → n / 2 ^ b ≡ 1
top_bit b n p q = div-eq_of_lt-le {k = 1} (2 ^ b) (omega arith) (omega arith)

highest_between : (p b n : ℕ) → 2 ^ b ≤ n → n < 2 ^ suc b → b < p → highest p n ≡ suc b
unfolding highest
highest_between zero b n least most h = absurd (not-suc-le-zero h)
highest_between (suc p) b n least most h = go (eq-or-lt_of_le h) (λ k. highest_between p b n least most k)
  where
    go : (suc b ≡ suc p) ⊎ (suc b < suc p) → (b < p → highest p n ≡ suc b) → highest (suc p) n ≡ suc b
    go (inl e) below =
        let s : b ≡ p = omega arith in
        rw (← s, top_bit b n least most)
    go (inr k) below =
        let z : n / 2 ^ p ≡ 0 = div-eq_of_lt (lt_of_lt_of_le most (pow_mono (le_of_suc-le-suc k))) in
        rw z (below (omega arith))

power_above : (n : ℕ) → n < 2 ^ n
power_above zero = omega arith
power_above (suc n) = omega (arith, power_above n)

pub bit_length_zero : bit_length 0 ≡ 0
unfolding bit_length highest
bit_length_zero = refl

-- the position b + 1 holds the highest one bit of the numbers from 2 ^ b to 2 ^ (b + 1) - 1
pub bit_length_between : (b n : ℕ) → 2 ^ b ≤ n → n < 2 ^ suc b → bit_length n ≡ suc b
unfolding bit_length
bit_length_between b n p q = highest_between n b n p q (omega (arith, power_above b))

leading_zeros_rest : (k n : ℕ) → n < 2 ^ k → count_leading_zeros k n + bit_length n ≡ k
leading_zeros_rest k zero h = rw (leading_of_zero k, bit_length_zero) (add-zero k)
leading_zeros_rest k (suc n) h =
    let t = leading_top k (suc n) (omega arith) h in
    rw (bit_length_between t.0 (suc n) t.2 t.3) t.1

-- in k bits, what is left of the leading zeros is the bit length
pub bit_length_leading_zeros : (k n : ℕ) → n < 2 ^ k → k - count_leading_zeros k n ≡ bit_length n
bit_length_leading_zeros k n h = omega (arith, leading_zeros_rest k n h)

-- 01: the depth of the tree is the bit length of the number of keys
pub depth_of_tree : (es : List Octets) → depth (tree es) ≡ bit_length (length es)
unfolding depth
depth_of_tree [] = rw (tree_none, bit_length_zero)
depth_of_tree (e ∷ es) =
    let n : ℕ = length (e ∷ es) in
    let t = leading_top n n (omega arith) (power_above n) in
    omega (arith, depth_most (suc t.0) (e ∷ es) t.3, depth_least t.0 (e ∷ es) t.2, bit_length_between t.0 n t.2 t.3)
