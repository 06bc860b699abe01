-- The walk: wherever two paths differ that pass steps 3 and 4 and have the same label at the root, it finds two different
-- records with the same label, since as long as the records agree, so do the labels below. It passes no more levels than the first
-- path has. And the walk as a loop.
use mathlib.Core.Path.{◌≡◌, refl, sym, ap, ◌∙◌}
use mathlib.Core.Bool.{Bool, true, false, cond}
use mathlib.Core.Option.{Option, none, some}
use Prim.Native.Nat.{ℕ, zero, suc, ◌≤◌, ◌<◌, zero-le, suc-le-suc}
use native.Mathlib.Decide.{dec_lt}
use native.Mathlib.Omega.{arith}
use lib.ListN.{length}
use Rattle.octets.specs.Order.{Octets, same}
use Rattle.octets.proofs.OrderLaws.{same_true, same_refl}
use Rattle.attester.specs.Record.{Child}
use Rattle.attester.specs.Path.{Path, foot, step, height, down}
use Rattle.attester.specs.Verdict.{root_record}
use Rattle.attester.specs.Walk.{Found, deeper, here_or_below, walk}
use Rattle.attester.specs.Demand3.{Walked}
use Rattle.attester.proofs.RootLaws.{Clean, clean_below, root_feet, root_apart, root_steps}

-- The walk, one level

module _ (H : Octets → Octets) (x : Octets) where
  -- the records differ here
  walk_here : (p q : Path) → same (root_record H x p) (root_record H x q) ≡ false
      → walk H x p q ≡ some record { passed = 0; first = root_record H x p; second = root_record H x q }
  unfolding walk
  walk_here (foot e l r) q h = rw h
  walk_here (step e s p) (foot f m n) h = rw h
  walk_here (step e s p) (step f t q) h = rw h

  -- they are the same
  walk_below : (e f : Octets) (s t : Child) (p q : Path) → root_record H x (step e s p) ≡ root_record H x (step f t q)
      → walk H x (step e s p) (step f t q) ≡ deeper (walk H x p q)
  unfolding walk
  walk_below e f s t p q h = rw (h, same_refl (root_record H x (step f t q)))

  walked_here : (p q : Path) → H (root_record H x p) ≡ H (root_record H x q) → same (root_record H x p) (root_record H x q) ≡ false
      → Walked H x p q
  unfolding down
  walked_here p q label h =
      record {
        found = record { passed = 0; first = root_record H x p; second = root_record H x q };
        is = walk_here p q h;
        contradiction = record {
          first_rebuilt = record { level = zero-le; is = refl };
          second_rebuilt = record { level = zero-le; is = refl };
          differ = λ e. let z : ◌≡◌ {A = ℕ} 0 1 = cc (same_refl (root_record H x q)) in omega arith;
          same_label = label;
        };
      }

  walked_below : (e f : Octets) (s t : Child) (p q : Path) → root_record H x (step e s p) ≡ root_record H x (step f t q)
      → Walked H x p q → Walked H x (step e s p) (step f t q)
  unfolding down height
  walked_below e f s t p q h u =
      let c = u.contradiction in
      record {
        found = record { passed = suc u.found.passed; first = u.found.first; second = u.found.second };
        is = walk_below e f s t p q h ∙ ap deeper u.is;
        contradiction = record {
          first_rebuilt = record { level = suc-le-suc c.first_rebuilt.level; is = c.first_rebuilt.is };
          second_rebuilt = record { level = suc-le-suc c.second_rebuilt.level; is = c.second_rebuilt.is };
          differ = c.differ;
          same_label = c.same_label;
        };
      }

  -- here, or, where the records are the same, further down
  walked_or : (p q : Path) → H (root_record H x p) ≡ H (root_record H x q) → (root_record H x p ≡ root_record H x q → Walked H x p q)
      → Walked H x p q
  walked_or p q label below = go (same (root_record H x p) (root_record H x q)) refl
    where
      go : (b : Bool) → same (root_record H x p) (root_record H x q) ≡ b → Walked H x p q
      go false h = walked_here p q label h
      go true h = below (same_true (root_record H x p) (root_record H x q) h)

module _ (H : Octets → Octets) (H_length : (m : Octets) → length (H m) ≡ 32) (w : ℕ) (x : Octets) where
  pub walked : (p q : Path) → Clean w x p → Clean w x q → H (root_record H x p) ≡ H (root_record H x q) → (p ≡ q → ⊥) → Walked H x p q
  walked (foot e l r) (foot f m n) c d label differ =
      walked_or H x (foot e l r) (foot f m n) label λ h. absurd (differ (root_feet H w x e f l r m n c.sized d.sized h))
  walked (foot e l r) (step f t q) c d label differ =
      walked_or H x (foot e l r) (step f t q) label λ h. absurd (root_apart H w x H_length e f l r t q c d h)
  walked (step e s p) (foot f m n) c d label differ =
      walked_or H x (step e s p) (foot f m n) label λ h. absurd (root_apart H w x H_length f e m n s p d c (sym h))
  walked (step e s p) (step f t q) c d label differ =
      walked_or H x (step e s p) (step f t q) label λ h.
      let a = root_steps H w x H_length e f s t p q c.sized d.sized h in
      walked_below H x e f s t p q h
      (walked p q (clean_below w x e s p c) (clean_below w x f t q d) a.label λ g. differ (cc (a.entry, a.sibling, g)))

-- No level is found below the first path's foot

-- at this level, or below, where no more than n are passed
passed_here_or_below : (r s : Octets) (below : Option Found) (n : ℕ) → ((g : Found) → below ≡ some g → g.passed ≤ n)
    → (f : Found) → here_or_below r s below ≡ some f → f.passed ≤ n
passed_here_or_below r s below n h f e = go (same r s) e
  where
    go : (b : Bool) → cond b below (some record { passed = 0; first = r; second = s }) ≡ some f → f.passed ≤ n
    go true k = h f k
    go false k =
        let here : record { passed = 0; first = r; second = s } ≡ f = cc in
        let z : 0 ≡ f.passed = ap (λ (g : Found). g.passed) here in
        omega arith

passed_deeper : (below : Option Found) (n : ℕ) → ((g : Found) → below ≡ some g → g.passed ≤ n)
    → (f : Found) → deeper below ≡ some f → f.passed ≤ suc n
passed_deeper none n h f e = let z : ◌≡◌ {A = ℕ} 0 1 = cc in absurd (omega arith)
passed_deeper (some g) n h f e =
    let one_more : record { passed = suc g.passed; first = g.first; second = g.second } ≡ f = cc in
    let z : suc g.passed ≡ f.passed = ap (λ (k : Found). k.passed) one_more in
    omega (arith, h g refl)

passed_none : (n : ℕ) (g : Found) → none ≡ some g → g.passed ≤ n
passed_none n g e = let z : ◌≡◌ {A = ℕ} 0 1 = cc in absurd (omega arith)

pub walk_passed : (H : Octets → Octets) (x : Octets) (p q : Path) (f : Found) → walk H x p q ≡ some f → f.passed ≤ height p
unfolding walk height
walk_passed H x (foot e l r) q f h =
    passed_here_or_below (root_record H x (foot e l r)) (root_record H x q) none 0 (passed_none 0) f h
walk_passed H x (step e s p) (foot g l r) f h =
    passed_here_or_below (root_record H x (step e s p)) (root_record H x (foot g l r)) none (suc (height p)) (passed_none (suc (height p))) f h
walk_passed H x (step e s p) (step g t q) f h =
    passed_here_or_below (root_record H x (step e s p)) (root_record H x (step g t q)) (deeper (walk H x p q)) (suc (height p))
    (passed_deeper (walk H x p q) (height p) (walk_passed H x p q)) f h

-- The walk as a loop

-- level i is reached: the records agree on each level before
pub record Passing (H : Octets → Octets) (x : Octets) (p q : Path) (i : ℕ) : Type 0 where
  pub first_level : i ≤ height p
  pub second_level : i ≤ height q
  pub agree : (j : ℕ) → j < i → root_record H x (down j p) ≡ root_record H x (down j q)

module _ (H : Octets → Octets) (x : Octets) where
  pub passing_start : (p q : Path) → Passing H x p q 0
  passing_start p q = record { first_level = zero-le; second_level = zero-le; agree = λ j h. absurd (omega arith) }

  -- the records of level i are the same; a level where they differ is further down
  pub passing_next : (p q : Path) (i : ℕ) → Walked H x p q → Passing H x p q i
      → same (root_record H x (down i p)) (root_record H x (down i q)) ≡ true → Passing H x p q (suc i)
  passing_next p q i u c h =
      record {
        first_level = omega (arith, further, u.contradiction.first_rebuilt.level);
        second_level = omega (arith, further, u.contradiction.second_rebuilt.level);
        agree = agree;
      }
    where
      agree : (j : ℕ) → j < suc i → root_record H x (down j p) ≡ root_record H x (down j q)
      agree j k =
          elim (dec_lt j i) [
            | yes l ↦ c.agree j l
            | no l ↦ let e : j ≡ i = omega arith in rw e (same_true (root_record H x (down i p)) (root_record H x (down i q)) h)
          ]

      further : i < u.found.passed
      further =
          elim (dec_lt i u.found.passed) [
            | yes l ↦ l
            | no l ↦
                let d = u.contradiction in
                absurd (d.differ (d.first_rebuilt.is ∙ (agree u.found.passed (omega arith) ∙ sym d.second_rebuilt.is)))
          ]

  -- the records of level i differ
  pub passing_end : (p q : Path) (i : ℕ) → Passing H x p q i
      → same (root_record H x (down i p)) (root_record H x (down i q)) ≡ false
      → walk H x p q ≡ some record { passed = i; first = root_record H x (down i p); second = root_record H x (down i q) }
  unfolding down height
  passing_end p q zero c h = walk_here H x p q h
  passing_end (foot e l r) q (suc i) c h = absurd (omega (arith, c.first_level))
  passing_end (step e s p) (foot f m n) (suc i) c h = absurd (omega (arith, c.second_level))
  passing_end (step e s p) (step f t q) (suc i) c h =
      walk_below H x e f s t p q (c.agree 0 (omega arith)) ∙ ap deeper (passing_end p q i below h)
    where
      below : Passing H x p q i
      below = record {
        first_level = omega (arith, c.first_level);
        second_level = omega (arith, c.second_level);
        agree = λ j k. c.agree (suc j) (suc-le-suc k);
      }
