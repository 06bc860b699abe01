-- The search: what is left to search gives what the whole search gives; and since at most one number is the listed key, a number is
-- at most one ahead of how many were tried, so that none beyond the bound is tried, nor the bound itself unless one was skipped.
use mathlib.Core.Path.{◌≡◌, refl, sym, ◌∙◌}
use mathlib.Core.Bool.{Bool, true, false}
use mathlib.Core.List.{[], ◌∷◌}
use mathlib.Core.Logic.{inl, inr}
use Prim.Native.Nat.{ℕ, suc, ◌+◌, ◌-◌, ◌^◌, ◌≤◌, ◌<◌}
use native.Mathlib.Numerals.{add-one}
use native.Mathlib.Omega.{arith}
use borrow.Author.Tests.{eqb-true, eqb-false}
use lib.Dec.{eqb}
use lib.ListN.{length}
use Rattle.octets.specs.Order.{Octets, same}
use Rattle.octets.proofs.OrderLaws.{same_true}
use Rattle.profile.specs.Profile.{drill, label}
use Rattle.attester.specs.Label.{digest}
use Rattle.tree.specs.Edition.{width}
use Rattle.tree.specs.Labels.{label_of}
use Rattle.contradiction.specs.Outcome.{Found, None}
use Rattle.contradiction.specs.Trial.{number_key, alike, unlisted, first_alike, trial_answer}
use Rattle.contradiction.specs.Shows.{Skipped, Within}
use Rattle.contradiction.proofs.NumberLaws.{key_length, key_injective}
use Rattle.contradiction.proofs.OneNodeLaws.{label_of_one}

pub number_label : (n : ℕ) → label_of (label drill) width (number_key n) ≡ digest (label drill) (number_key n ∷ [])
number_label n = label_of_one (label drill) (number_key n) (key_length n)

module _ (k : Octets) where
  pub unlisted_next : (n : ℕ) → same (number_key n) k ≡ true → unlisted k n ≡ suc n
  unfolding unlisted
  unlisted_next n e = rw e

  pub unlisted_stays : (n : ℕ) → same (number_key n) k ≡ false → unlisted k n ≡ n
  unfolding unlisted
  unlisted_stays n e = rw e

  -- n is to be tried next, with so many left: no number was skipped yet; or one was
  pub data Room (bound left n : ℕ) : Type 0 where
    fresh : n + left ≤ bound → Room bound left n
    past : Skipped k n → n + left ≤ suc bound → Room bound left n

  pub room_start : (bound : ℕ) → Room bound bound 0
  room_start bound = fresh (omega arith)

  pub within_bound : {bound n : ℕ} → Within k bound n → n ≤ bound
  within_bound (inl h) = omega arith
  within_bound (inr h) = omega (arith, h.0)

  pub skipped_below : {n m : ℕ} (i : Skipped k n) → i.which < m → Skipped k m
  skipped_below i h = record { which = i.which; below = h; is_listed = i.is_listed }

  within_skipped : (bound m : ℕ) → Skipped k m → m ≤ bound → Within k bound m
  within_skipped bound m i h = go (eqb m bound) refl
    where
      go : (b : Bool) → eqb m bound ≡ b → Within k bound m
      go true q = let z = eqb-true m bound q in inr (z, skipped_below i (omega (arith, i.below)))
      go false q = let z = eqb-false m bound q in inl (omega arith)

  -- the number m is tried, and then so many are left
  record Stepped (bound left m : ℕ) : Type 0 where
    within : Within k bound m
    room : Room bound left (suc m)

  module _ (bound : ℕ) (small : bound < 2 ^ 32) (left n : ℕ) where
    pub room_below : Room bound (suc left) n → n ≤ bound
    room_below (fresh h) = omega arith
    room_below (past i h) = omega arith

    stepped : Room bound (suc left) n → (b : Bool) → same (number_key n) k ≡ b → Stepped bound left (unlisted k n)
    stepped (fresh h) true e =
        let i : Skipped k (suc n) = record { which = n; below = omega arith; is_listed = same_true (number_key n) k e } in
        rw (unlisted_next n e) record {
          within = within_skipped bound (suc n) i (omega arith);
          room = past (skipped_below i (omega arith)) (omega arith);
        }
    stepped (fresh h) false e = rw (unlisted_stays n e) record { within = inl (omega arith); room = fresh (omega arith) }
    stepped (past i h) true e =
        let l = i.below in
        let z = key_injective i.which n (omega arith) (omega arith) (i.is_listed ∙ sym (same_true (number_key n) k e)) in
        absurd (omega arith)
    stepped (past i h) false e =
        rw (unlisted_stays n e) record {
          within = within_skipped bound n i (omega arith);
          room = past (skipped_below i (omega (arith, i.below))) (omega arith);
        }

    pub tried_within : Room bound (suc left) n → Within k bound (unlisted k n)
    tried_within r = (stepped r (same (number_key n) k) refl).within

    pub room_next : Room bound (suc left) n → Room bound left (suc (unlisted k n))
    room_next r = (stepped r (same (number_key n) k) refl).room

  -- the loop, where t numbers were tried and n is to be tried next
  pub record Searching (bound t n : ℕ) : Type 0 where
    pub room : Room bound (bound - t) n
    pub rest : first_alike k (bound - t) n ≡ first_alike k bound 0

  pub searching_start : (bound : ℕ) → Searching bound 0 0
  searching_start bound = let e : bound - 0 ≡ bound = omega arith in record { room = rw e (room_start bound); rest = rw e }

pub searching_none : {k : Octets} {bound t n : ℕ} → Searching k bound t n → bound ≤ t → None ≡ trial_answer (first_alike k bound 0)
unfolding first_alike trial_answer
searching_none {k} {bound} {t} s h = let z : bound - t ≡ 0 = omega arith in rw (← s.rest, z)

module _ {k : Octets} {bound t n : ℕ} (s : Searching k bound t n) (small : bound < 2 ^ 32) (more : t < bound) where
  -- one of those that are left is tried now
  again : bound - t ≡ suc (bound - (t + 1))
  again = omega arith

  room : Room k bound (suc (bound - (t + 1))) n
  room = rw again at s.room

  pub number_small : n < 2 ^ 32
  number_small = omega (arith, room_below k bound small (bound - (t + 1)) n room)

  module _ {m : ℕ} (u : m ≡ unlisted k n) where
    pub tried_small : m < 2 ^ 32
    tried_small = omega (arith, u, within_bound k (tried_within k bound small (bound - (t + 1)) n room))

    -- the code's test is against the label d, worked out beforehand
    module _ {d : Octets} {b : Bool} (one : length k ≡ 20) (ed : d ≡ label_of (label drill) width k)
        (eb : b ≡ same (digest (label drill) (number_key m ∷ [])) d) where
      tested : alike k m ≡ b
      unfolding alike
      tested = rw (eb, ed, label_of_one (label drill) k one)

      pub searching_found : b ≡ true → Found m ≡ trial_answer (first_alike k bound 0)
      unfolding first_alike trial_answer
      searching_found e = rw (← s.rest, again, ← u, tested, e)

      pub searching_turn : b ≡ false → Searching k bound (t + 1) (m + 1)
      unfolding first_alike
      searching_turn e =
          let r : Room k bound (bound - (t + 1)) (suc m) = rw u (room_next k bound small (bound - (t + 1)) n room) in
          let f : first_alike k (suc (bound - (t + 1))) n ≡ first_alike k (bound - (t + 1)) (suc m) = rw (← u, tested, e) in
          let j : m + 1 ≡ suc m = add-one m in
          rw j record { room = r; rest = sym f ∙ (rw again at s.rest) }
