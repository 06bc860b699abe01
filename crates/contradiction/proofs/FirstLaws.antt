-- The search is right from each of its states, by one induction: every number below the next to try was passed, and so many are left
-- that those up to the bound are tried; the bound itself too where a number was skipped.
use mathlib.Core.Path.{◌≡◌, refl, sym, subst, ◌∙◌}
use mathlib.Core.Bool.{Bool, true, false, cond}
use mathlib.Core.Logic.{inl, inr}
use mathlib.Core.Option.{Option, none, some}
use Prim.Native.Nat.{ℕ, zero, suc, ◌+◌, ◌^◌, ◌≤◌, ◌<◌}
use native.Mathlib.Numerals.{add-one}
use native.Mathlib.Omega.{arith}
use borrow.Author.Count.{below_more}
use borrow.Author.Tests.{eqb-true, eqb-false}
use lib.Dec.{eqb}
use Rattle.octets.specs.Order.{Octets, same}
use Rattle.octets.proofs.OrderLaws.{same_true, same_refl}
use Rattle.contradiction.specs.Trial.{number_key, alike, unlisted, first_alike}
use Rattle.contradiction.specs.Shows.{Passed, Skipped, Within, FirstIsFirst}
use Rattle.contradiction.proofs.NumberLaws.{keys_in_a_row}
use Rattle.contradiction.proofs.TrialLaws.{unlisted_next, unlisted_stays, Room, room_start, skipped_below, tried_within, room_next}

module _ (k : Octets) where
  abbrev AllPassed : ℕ → Type 0
  AllPassed n = (i : ℕ) → i < n → Passed k i

  passed_more : (n : ℕ) → AllPassed n → Passed k n → AllPassed (suc n)
  passed_more n all here = rw (← add-one n) (below_more (Passed k) n all here)

  passed_unlisted : (n : ℕ) → AllPassed n → (b : Bool) → same (number_key n) k ≡ b → AllPassed (unlisted k n)
  passed_unlisted n all true e = rw (unlisted_next k n e) (passed_more n all (inl (same_true (number_key n) k e)))
  passed_unlisted n all false e = rw (unlisted_stays k n e) all

  unlisted_above : (n : ℕ) (b : Bool) → same (number_key n) k ≡ b → n ≤ unlisted k n
  unlisted_above n true e = rw (unlisted_next k n e) (omega arith)
  unlisted_above n false e = rw (unlisted_stays k n e) (omega arith)

  told_apart : (n : ℕ) → same (number_key n) k ≡ false → number_key n ≡ k → ⊥
  told_apart n e q =
      let t : same (number_key n) k ≡ true = rw q (same_refl k) in
      let z : ◌≡◌ {A = ℕ} 0 1 = cc in
      omega arith

  -- what is tried is not the listed key: of two numbers in a row only one can be
  other : (n : ℕ) (b : Bool) → same (number_key n) k ≡ b → number_key (unlisted k n) ≡ k → ⊥
  other n true e q = keys_in_a_row n (rw (unlisted_next k n e) at q ∙ sym (same_true (number_key n) k e))
  other n false e q = told_apart n e (rw (unlisted_stays k n e) at q)

  module _ (bound : ℕ) where
    -- n is to be tried next, with so many left; where a number was skipped, one past the bound is reached
    record State (left n : ℕ) : Type 0 where
      room : bound < 2 ^ 32 → Room k bound left n
      all : AllPassed n
      enough : bound ≤ n + left
      ahead : Skipped k n → bound < n + left

    -- one more number tried
    ahead_next : (left n : ℕ) → State (suc left) n → (b : Bool) → same (number_key n) k ≡ b → Skipped k (suc (unlisted k n))
        → bound < suc (unlisted k n) + left
    ahead_next left n s true e i = rw (unlisted_next k n e) (omega (arith, s.enough))
    ahead_next left n s false e i = rw (unlisted_stays k n e) (go (eqb i.which n) refl (rw (unlisted_stays k n e) at i.below))
      where
        go : (b : Bool) → eqb i.which n ≡ b → i.which < suc n → bound < suc n + left
        go true q l = absurd (told_apart n e (rw (eqb-true i.which n q) at i.is_listed))
        go false q l =
            let z = eqb-false i.which n q in
            let p = s.ahead (skipped_below k i (omega arith)) in
            omega arith

    record RightNumber (m : ℕ) : Type 0 where
      other_key : number_key m ≡ k → ⊥
      same_label : alike k m ≡ true
      first : AllPassed m
      within : bound < 2 ^ 32 → Within k bound m

    abbrev Right : Option ℕ → Type 0
    Right none = AllPassed bound × (Skipped k bound → Passed k bound)
    Right (some m) = RightNumber m

    right : (left n : ℕ) → State left n → Right (first_alike k left n)
    unfolding first_alike
    right zero n s = (
      λ i h. s.all i (omega (arith, s.enough)),
      λ i. s.all bound (omega (arith, s.ahead (skipped_below k i (omega (arith, i.below, s.enough))))),
    )
    right (suc left) n s = go (alike k (unlisted k n)) refl (right left (suc (unlisted k n)))
      where
        go : (b : Bool) → alike k (unlisted k n) ≡ b → (State left (suc (unlisted k n)) → Right (first_alike k left (suc (unlisted k n))))
            → Right (cond b (some (unlisted k n)) (first_alike k left (suc (unlisted k n))))
        go true e f =
            record {
              other_key = other n (same (number_key n) k) refl;
              same_label = e;
              first = passed_unlisted n s.all (same (number_key n) k) refl;
              within = λ small. tried_within k bound small left n (s.room small);
            }
        go false e f =
            f record {
              room = λ small. room_next k bound small left n (s.room small);
              all = passed_more (unlisted k n) (passed_unlisted n s.all (same (number_key n) k) refl) (inr e);
              enough = omega (arith, s.enough, unlisted_above n (same (number_key n) k) refl);
              ahead = ahead_next left n s (same (number_key n) k) refl;
            }

    whole : Right (first_alike k bound 0)
    whole = right bound 0 record {
      room = λ small. room_start k bound;
      all = λ i h. absurd (omega arith);
      enough = omega arith;
      ahead = λ i. absurd (omega (arith, i.below));
    }

    pub first_is_first : FirstIsFirst k bound
    first_is_first = record {
      found_unlisted = λ n e. (subst Right e whole).other_key;
      found_alike = λ n e. (subst Right e whole).same_label;
      found_first = λ n e. (subst Right e whole).first;
      found_within = λ small n e. (subst Right e whole).within small;
      none_passed = λ e. (subst Right e whole).0;
      none_passed_skipped = λ e. (subst Right e whole).1;
    }
