-- The walk over two attestations of sound form: a level that both paths have is one that both count; and the loop's turn.
use mathlib.Core.Path.{◌≡◌, ap}
use mathlib.Core.Bool.{true}
use mathlib.Core.Logic.{∥∥₁_elim}
use Prim.Native.Nat.{ℕ, suc, ◌+◌, ◌≤◌, ◌<◌}
use native.Mathlib.Numerals.{add-one}
use native.Mathlib.Omega.{arith}
use lib.ListN.{get_or}
use Rattle.std.specs.Coded.{le_prop}
use Rattle.octets.specs.Order.{Octets, same}
use Rattle.attester.specs.Path.{height, down}
use Rattle.attester.specs.Verdict.{root_record}
use Rattle.attester.specs.Attestation.{render}
use Rattle.attester.specs.Demand3.{Walked}
use Rattle.attester.proofs.FormLaws.{form_rendered}
use Rattle.attester.proofs.WalkLaws.{Passing, passing_next}
use Rattle.tree.specs.Edition.{width}
use Rattle.attestation.specs.Shown.{Formed, shown}

-- K, the number of a path's levels
record Counted (a : Octets) : Type 0 where
  is : get_or a 0 0 ≡ suc (height (shown a))
  few : get_or a 0 0 ≤ 32

counted : (a : Octets) → Formed a → Counted a
unfolding render
counted a f =
    let r = form_rendered width a (shown a) f in
    let e : get_or a 0 0 ≡ suc (height (shown a)) = ap (λ s. get_or s 0 0) r.is in
    record { is = e; few = omega (arith, r.low) }

level_in : (a : Octets) (i : ℕ) → ∥ Formed a ∥₁ → i ≤ height (shown a) → i < get_or a 0 0
level_in a i t h = ∥∥₁_elim t le_prop λ f. omega (arith, (counted a f).is)

level_few : (a : Octets) (i : ℕ) → ∥ Formed a ∥₁ → i ≤ height (shown a) → i < 32
level_few a i t h = ∥∥₁_elim t le_prop λ f. let n = counted a f in omega (arith, n.is, n.few)

module _ {H : Octets → Octets} {x : Octets} (a b : Octets) {i : ℕ} (p : Passing H x (shown a) (shown b) i) where
  pub in_first : ∥ Formed a ∥₁ → i < get_or a 0 0
  in_first f = level_in a i f p.first_level

  pub in_second : ∥ Formed b ∥₁ → i < get_or b 0 0
  in_second f = level_in b i f p.second_level

  pub few : ∥ Formed a ∥₁ → i < 32
  few f = level_few a i f p.first_level

  pub walking_next : Walked H x (shown a) (shown b) → same (root_record H x (down i (shown a))) (root_record H x (down i (shown b))) ≡ true
      → Passing H x (shown a) (shown b) (i + 1)
  walking_next u e = rw add-one (passing_next H x (shown a) (shown b) i u p e)
