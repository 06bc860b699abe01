-- How long a refusal's line is.
use Prim.Native.Nat.{ℕ, ◌≤◌, ◌<◌, ◌^◌}
use native.Mathlib.Omega.{arith}
use lib.ListN.{length, length-append}
use Rattle.show.specs.Refusal.{refusal_line}
use Rattle.show.proofs.DecimalLaws.{decimal_length}

pub refusal_length : (m p : ℕ) → m < 2 ^ 16 → p < 2 ^ 32 → length (refusal_line m p) ≤ 25
unfolding refusal_line
refusal_length m p h k =
    simp length-append (omega (arith, decimal_length 4 m (omega arith), decimal_length 9 p (omega arith)))
