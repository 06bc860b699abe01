-- What a judgement is, step by step; what one level more adds to step 4; and that a path which passes steps 3 and 4 is
-- accepted under the label that it hashes to, and under no other.
use mathlib.Core.Path.{◌≡◌, refl}
use mathlib.Core.Bool.{Bool, true, false, cond, ◌||◌, or-true}
use mathlib.Core.Option.{Option, none, some}
use Prim.Native.Nat.{Ordering}
use Prim.Native.Nat.{ℕ, suc, ◌≤◌, ◌<◌}
use native.Mathlib.Omega.{arith}
use Rattle.answer.specs.Refusals.{child_at_foot, key_above, other_digest}
use Rattle.octets.specs.Order.{Octets, same}
use Rattle.octets.proofs.OrderLaws.{order_eq, same_true, same_refl}
use Rattle.attester.specs.Entry.{key}
use Rattle.attester.specs.Record.{Child}
use Rattle.attester.specs.Path.{Path, foot, step, top, foot_entry, height}
use Rattle.attester.specs.Verdict.{present, absent, refused, Accepted, side, hidden, lowest, fault, unless_fault, root_record, judge}

-- Where x stands, and whether it is the key

pub side_eq : (x e : Octets) → side x e ≡ Ordering.eq → x ≡ key e
unfolding side
side_eq x e h = order_eq x (key e) h

pub side_same_lt : (x e : Octets) → side x e ≡ Ordering.lt → same x (key e) ≡ false
unfolding side same
side_same_lt x e h = rw h

pub side_same_eq : (x e : Octets) → side x e ≡ Ordering.eq → same x (key e) ≡ true
unfolding side same
side_same_eq x e h = rw h

pub side_same_gt : (x e : Octets) → side x e ≡ Ordering.gt → same x (key e) ≡ false
unfolding side same
side_same_gt x e h = rw h

-- The steps

module _ (H : Octets → Octets) (x d : Octets) (p : Path) where
  pub judge_hidden : hidden x p ≡ true → judge H x d p ≡ refused child_at_foot 0
  unfolding judge
  judge_hidden h = rw h

  module _ (open_foot : hidden x p ≡ false) where
    pub judge_fault : (j : ℕ) → fault x p ≡ some j → judge H x d p ≡ refused key_above j
    unfolding judge
    judge_fault j f = rw (open_foot, f)

    module _ (faultless : fault x p ≡ none) where
      pub judge_other : same (H (root_record H x p)) d ≡ false → judge H x d p ≡ refused other_digest 0
      unfolding judge
      judge_other s = rw (open_foot, faultless, s)

      pub judge_accepts : same (H (root_record H x p)) d ≡ true → judge H x d p ≡ cond (same x (key (foot_entry p))) present absent
      unfolding judge
      judge_accepts s = rw (open_foot, faultless, s)

-- a path that was accepted passed each step
pub record Passed (H : Octets → Octets) (x d : Octets) (p : Path) : Type 0 where
  pub open_foot : hidden x p ≡ false
  pub faultless : fault x p ≡ none
  pub hashes : H (root_record H x p) ≡ d
  pub answer : judge H x d p ≡ cond (same x (key (foot_entry p))) present absent

pub judge_passed : (H : Octets → Octets) (x d : Octets) (p : Path) → Accepted (judge H x d p) → Passed H x d p
unfolding judge
judge_passed H x d p h = go (hidden x p) (fault x p) (same (H (root_record H x p)) d) refl refl refl h
  where
    go : (o : Bool) (f : Option ℕ) (s : Bool) → hidden x p ≡ o → fault x p ≡ f → same (H (root_record H x p)) d ≡ s
        → Accepted (cond o (refused child_at_foot 0) (unless_fault f (cond s (cond (same x (key (foot_entry p))) present absent) (refused other_digest 0))))
        → Passed H x d p
    go true f s a b c t = absurd t
    go false (some j) s a b c t = absurd t
    go false none false a b c t = absurd t
    go false none true a b c t = record {
      open_foot = a;
      faultless = b;
      hashes = same_true (H (root_record H x p)) d c;
      answer = judge_accepts H x d p a b c;
    }

-- under the label that it hashes to
pub judge_own : (H : Octets → Octets) (x : Octets) (p : Path) → hidden x p ≡ false → fault x p ≡ none
    → judge H x (H (root_record H x p)) p ≡ cond (same x (key (foot_entry p))) present absent
judge_own H x p a b = judge_accepts H x (H (root_record H x p)) p a b (same_refl (H (root_record H x p)))

-- Step 4, one level up

module _ (x e : Octets) (s : Child) (p : Path) (clean : fault x p ≡ none) where
  -- x = kj
  pub fault_key : same x (key e) ≡ true → fault x (step e s p) ≡ some (suc (height p))
  unfolding fault
  fault_key h = rw (clean, h)

  -- k(j-1) = kj
  pub fault_equal : same (key (top p)) (key e) ≡ true → fault x (step e s p) ≡ some (suc (height p))
  unfolding fault
  fault_equal h = rw (clean, h, or-true (same x (key e)))

  pub fault_none : same x (key e) ≡ false → same (key (top p)) (key e) ≡ false → fault x (step e s p) ≡ none
  unfolding fault
  fault_none h k = rw (clean, h, k)

-- where step 4 finds no fault, it finds none one level down, and x is not the key
pub fault_below : (x e : Octets) (s : Child) (p : Path) → fault x (step e s p) ≡ none → (fault x p ≡ none) × (same x (key e) ≡ false)
unfolding fault
fault_below x e s p h = go (fault x p) (same x (key e)) (same (key (top p)) (key e)) h
  where
    go : (o : Option ℕ) (a b : Bool) → lowest o (a || b) (suc (height p)) ≡ none → (o ≡ none) × (a ≡ false)
    go (some i) a b k = let z : ◌≡◌ {A = ℕ} 0 1 = cc in absurd (omega arith)
    go none true b k = let z : ◌≡◌ {A = ℕ} 0 1 = cc in absurd (omega arith)
    go none false b k = (refl, refl)

-- the foot is on no level above itself
pub fault_above : (x : Octets) (p : Path) (j : ℕ) → fault x p ≡ some j → 0 < j
unfolding fault
fault_above x (foot e l r) j h = let z : ◌≡◌ {A = ℕ} 0 1 = cc in absurd (omega arith)
fault_above x (step e s p) j h =
    go (fault x p) (same x (key e) || same (key (top p)) (key e)) (fault_above x p j) h
  where
    go : (o : Option ℕ) (b : Bool) → (o ≡ some j → 0 < j) → lowest o b (suc (height p)) ≡ some j → 0 < j
    go (some i) b g k = g k
    go none true g k = let e : suc (height p) ≡ j = cc in omega arith
    go none false g k = let z : ◌≡◌ {A = ℕ} 0 1 = cc in absurd (omega arith)

-- and no level is above the root
pub fault_height : (x : Octets) (p : Path) (j : ℕ) → fault x p ≡ some j → j ≤ height p
unfolding fault height
fault_height x (foot e l r) j h = let z : ◌≡◌ {A = ℕ} 0 1 = cc in absurd (omega arith)
fault_height x (step e s p) j h =
    go (fault x p) (same x (key e) || same (key (top p)) (key e)) (fault_height x p j) h
  where
    go : (o : Option ℕ) (b : Bool) → (o ≡ some j → j ≤ height p) → lowest o b (suc (height p)) ≡ some j → j ≤ suc (height p)
    go (some i) b g k = omega (arith, g k)
    go none true g k = let e : suc (height p) ≡ j = cc in omega arith
    go none false g k = let z : ◌≡◌ {A = ℕ} 0 1 = cc in absurd (omega arith)
