-- The steps of the verdict over octets of the form: step 3 at the foot, and the two loops from the foot to the root, of step 4
-- and of step 5.
use mathlib.Core.Path.{◌≡◌, refl, sym, ap, ◌∙◌}
use mathlib.Core.Bool.{Bool, true, false, cond}
use mathlib.Core.Option.{none, some}
use Prim.Native.Nat.{Ordering}
use Prim.Native.Nat.{ℕ, suc, ◌+◌, ◌-◌, ◌*◌, ◌≤◌, ◌<◌}
use native.Mathlib.Omega.{arith}
use lib.Dec.{ltb}
use lib.ListN.{length, take, drop, get_or}
use lib.Seq.{take_all}
use Rattle.std.proofs.lemmas.Bool.{true≢false}
use Rattle.std.specs.Ordering.{is_gt}
use Rattle.std.specs.declared.cmp.Ordering as code
use Rattle.std.specs.declared.cmp.Ordering.TheVariants.{Less, Equal, Greater}
use Rattle.answer.specs.Verdict.{Present, Absent, Refused}
use Rattle.answer.specs.Refusals.{child_at_foot, key_above, other_digest}
use Rattle.octets.specs.Order.{Octets, order, same}
use Rattle.octets.specs.Compared.{order_of}
use Rattle.attester.specs.Entry.{key, entries}
use Rattle.attester.specs.Record.{Child, bit, node_record}
use Rattle.attester.specs.Path.{Path, foot, step, foot_entry, foot_left, foot_right, height, top, down}
use Rattle.attester.specs.Verdict.{present, absent, side, child_there, hidden, fault, join, root_record, judge}
use Rattle.attester.proofs.PathLaws.{foot_entry_climb}
use Rattle.attester.proofs.VerdictLaws.{judge_hidden, judge_fault, judge_other, judge_accepts, fault_key, fault_equal, fault_none}
use Rattle.attester.proofs.ClimbLaws.{hidden_climb, fault_climb}
use Rattle.attester.proofs.LayoutLaws.{Climbing, climb_down}
use Rattle.tree.specs.Labels.{one_if}
use Rattle.tree.specs.Edition.{width}
use Rattle.attestation.specs.Shown.{shown, Formed, key_at, child_at, behind, left_at, right_at, count_at}
use Rattle.attestation.specs.Verify.{verdict_of}
use Rattle.attestation.proofs.ShownLaws.{laid, key_of, child_bit, Higher, higher}

-- Step 3

child_there_left : (b : Bool) (l r : Child) → one_if b ≡ bit l → child_there Ordering.lt l r ≡ b
unfolding child_there
child_there_left true none r e = absurd (omega arith)
child_there_left true (some l) r e = refl
child_there_left false none r e = refl
child_there_left false (some l) r e = absurd (omega arith)

child_there_right : (b : Bool) (l r : Child) → one_if b ≡ bit r → child_there Ordering.gt l r ≡ b
unfolding child_there
child_there_right true l none e = absurd (omega arith)
child_there_right true l (some r) e = refl
child_there_right false l none e = refl
child_there_right false l (some r) e = absurd (omega arith)

module _ (x a : Octets) (f : ∥ Formed a ∥₁) {k : Octets} (ek : k ≡ key_at a 0) where
  hidden_there : hidden x (shown a) ≡ child_there (order x k) (child_at a (left_at a)) (child_at a (right_at a))
  unfolding hidden side foot_entry foot_left foot_right
  hidden_there =
      let c = (laid f).climbing in
      ap (hidden x) c.is
      ∙ hidden_climb x (foot (key_at a 0) (child_at a (left_at a)) (child_at a (right_at a))) (entries width (get_or a 0 0 - 1 - 0) (drop (1 + 1 * 20) a)) c.left
      ∙ rw (key_of a 0, ek)

  pub hidden_less : {l : ℕ} → order x k ≡ Ordering.lt → l ≡ left_at a → ltb 0 (get_or a l 0) ≡ hidden x (shown a)
  hidden_less {l} e el =
      rw el (sym (hidden_there ∙ rw e (child_there_left (ltb 0 (get_or a (left_at a) 0)) (child_at a (left_at a)) (child_at a (right_at a)) (child_bit a (left_at a)))))

  pub hidden_equal : order x k ≡ Ordering.eq → false ≡ hidden x (shown a)
  unfolding child_there
  hidden_equal e = sym (hidden_there ∙ rw e)

  pub hidden_greater : {l r : ℕ} → order x k ≡ Ordering.gt → l ≡ left_at a → r ≡ behind a l → ltb 0 (get_or a r 0) ≡ hidden x (shown a)
  hidden_greater {l} {r} e el er =
      rw (er, el) (sym (hidden_there ∙ rw e (child_there_right (ltb 0 (get_or a (right_at a) 0)) (child_at a (left_at a)) (child_at a (right_at a)) (child_bit a (right_at a)))))

-- Step 4: up to level j, x is on no level above the foot, and no key equals the one below it

pub record Clean (x a : Octets) (j : ℕ) : Type 0 where
  pub at : ℕ
  pub reached : Path
  pub climbing : Climbing width a (shown a) j at reached
  pub faultless : fault x reached ≡ none

pub clean_start : (x a : Octets) → ∥ Formed a ∥₁ → Clean x a 0
unfolding fault
clean_start x a f = record {
  at = suc (count_at a);
  reached = foot (key_at a 0) (child_at a (left_at a)) (child_at a (right_at a));
  climbing = (laid f).climbing;
  faultless = refl;
}

module _ (x a : Octets) (j : ℕ) (c : Clean x a j) where
  pub clean_end : suc j ≡ get_or a 0 0 → none ≡ fault x (shown a)
  unfolding down
  clean_end h =
      let root : shown a ≡ c.reached = climb_down width a (shown a) j c.at c.reached c.climbing 0 (omega arith) in
      rw (root, c.faultless)

  module _ (h : suc j < get_or a 0 0) where
    up : Higher a (shown a) j c.at c.reached c.climbing h
    up = higher a (shown a) j c.at c.reached c.climbing h

    below : key (top c.reached) ≡ key_at a j
    below =
        let offset : 1 + j * 20 ≡ 1 + 20 * j = omega arith in
        ap key (c.climbing.at_top ∙ ap (λ n. take 20 (drop n a)) offset) ∙ key_of a j

    -- a fault on level j + 1 is the smallest
    faulty : fault x (step (key_at a (suc j)) (child_at a c.at) c.reached) ≡ some (suc (height c.reached))
        → some (suc j) ≡ fault x (shown a)
    faulty e =
        let d = up.climbing in
        let f = fault_climb x _ _ (entries width (get_or a 0 0 - 1 - suc j) (drop (1 + suc (suc j) * 20) a)) d.left e in
        let g : fault x (shown a) ≡ some (suc (height c.reached)) = ap (fault x) d.is ∙ f in
        rw (g, c.climbing.tall)

    clean_key : same x (key_at a (suc j)) ≡ true → some (suc j) ≡ fault x (shown a)
    clean_key s = faulty (fault_key x (key_at a (suc j)) (child_at a c.at) c.reached c.faultless (rw (key_of a (suc j)) s))

    clean_equal : same (key_at a j) (key_at a (suc j)) ≡ true → some (suc j) ≡ fault x (shown a)
    clean_equal s =
        faulty (fault_equal x (key_at a (suc j)) (child_at a c.at) c.reached c.faultless (rw (key_of a (suc j), below) s))

    clean_turn : same x (key_at a (suc j)) ≡ false → same (key_at a j) (key_at a (suc j)) ≡ false → Clean x a (suc j)
    clean_turn s t = record {
      at = behind a c.at;
      reached = step (key_at a (suc j)) (child_at a c.at) c.reached;
      climbing = up.climbing;
      faultless =
          fault_none x (key_at a (suc j)) (child_at a c.at) c.reached c.faultless
          (rw (key_of a (suc j)) s) (rw (key_of a (suc j), below) t);
    }

-- the same for level j of the code, with the keys that it looks at
module _ (x a : Octets) (j : ℕ) (c : Clean x a (j - 1)) (p : 1 ≤ j) (h : j < get_or a 0 0) {k : Octets} (ek : k ≡ key_at a j) where
  one_up : suc (j - 1) ≡ j
  one_up = omega arith

  pub key_fault : same x k ≡ true → some j ≡ fault x (shown a)
  key_fault s = rw one_up at (clean_key x a (j - 1) c (omega arith) (rw (one_up, ← ek) s))

  module _ {b : Octets} (eb : b ≡ key_at a (j - 1)) where
    pub equal_fault : same b k ≡ true → some j ≡ fault x (shown a)
    equal_fault s = rw one_up at (clean_equal x a (j - 1) c (omega arith) (rw (one_up, ← ek, ← eb) s))

    pub no_fault : same x k ≡ false → same b k ≡ false → Clean x a (j + 1 - 1)
    no_fault s t =
        let back : suc (j - 1) ≡ j + 1 - 1 = omega arith in
        rw back at (clean_turn x a (j - 1) c (omega arith) (rw (one_up, ← ek) s) (rw (one_up, ← ek, ← eb) t))

-- Step 5: one level's record, by the code's comparison of x and the key

module _ (x k : Octets) (s : Child) (l : Octets) (n : length k ≡ 20) where
  side_is : side x k ≡ order x k
  unfolding side key
  side_is = rw (take_all 20 k (omega arith))

  pub join_left : (o : code.Ordering) → order_of o ≡ order x k → is_gt o ≡ false → join (side x k) k s l ≡ node_record (some l) k s
  unfolding join
  join_left Less e g = rw (side_is, ← e)
  join_left Equal e g = rw (side_is, ← e)
  join_left Greater e g = absurd (true≢false g)

  pub join_right : (o : code.Ordering) → order_of o ≡ order x k → is_gt o ≡ true → join (side x k) k s l ≡ node_record s k (some l)
  unfolding join
  join_right Less e g = absurd (true≢false (sym g))
  join_right Equal e g = absurd (true≢false (sym g))
  join_right Greater e g = rw (side_is, ← e)

-- Step 5: r is the record on level j, and the siblings that are left stand from the offset `at` on

pub record Risen (H : Octets → Octets) (x a : Octets) (j at : ℕ) (r : Octets) : Type 0 where
  pub reached : Path
  pub climbing : Climbing width a (shown a) j at reached
  pub is : r ≡ root_record H x reached

pub risen_start : (H : Octets → Octets) (x a : Octets) {at : ℕ} {r : Octets} → ∥ Formed a ∥₁ → at ≡ suc (count_at a)
    → r ≡ node_record (child_at a (left_at a)) (key_at a 0) (child_at a (right_at a)) → Risen H x a 0 at r
unfolding root_record
risen_start H x a f e g =
    rw e record {
      reached = foot (key_at a 0) (child_at a (left_at a)) (child_at a (right_at a));
      climbing = (laid f).climbing;
      is = g;
    }

module _ (H : Octets → Octets) (x a : Octets) (j at : ℕ) (r : Octets) (c : Risen H x a j at r) where
  pub risen_end : (i : ℕ) → j + i ≡ get_or a 0 0 - 1 → r ≡ root_record H x (down i (shown a))
  risen_end i h = c.is ∙ ap (root_record H x) (sym (climb_down width a (shown a) j at c.reached c.climbing i h))

  module _ (h : suc j < get_or a 0 0) where
    pub risen_inside : Higher a (shown a) j at c.reached c.climbing h
    risen_inside = higher a (shown a) j at c.reached c.climbing h

    risen_turn : {k l r' : Octets} → k ≡ key_at a (suc j) → l ≡ H r → r' ≡ join (side x k) k (child_at a at) l → Risen H x a (suc j) (behind a at) r'
    unfolding root_record
    risen_turn e f g = record {
      reached = step (key_at a (suc j)) (child_at a at) c.reached;
      climbing = risen_inside.climbing;
      is = g ∙ rw (e, f, c.is);
    }

-- the same from level j - 1 to level j of the code
module _ (H : Octets → Octets) (x a : Octets) (j at : ℕ) (r : Octets) (c : Risen H x a (j - 1) at r) (p : 1 ≤ j) (h : j < get_or a 0 0) where
  pub risen_next : {k l r' : Octets} {at' : ℕ} → k ≡ key_at a j → l ≡ H r → r' ≡ join (side x k) k (child_at a at) l → at' ≡ behind a at
      → Risen H x a (j + 1 - 1) at' r'
  risen_next {k} {l} {r'} {at'} e f g i =
      let one_up : j ≡ suc (j - 1) = omega arith in
      let back : suc (j - 1) ≡ j + 1 - 1 = omega arith in
      rw i (rw back at (risen_turn H x a (j - 1) at r c (omega arith) (e ∙ ap (key_at a) one_up) f g))

-- Step 6

pub foot_shown : (a : Octets) → ∥ Formed a ∥₁ → key (foot_entry (shown a)) ≡ key_at a 0
unfolding foot_entry
foot_shown a f =
    let c = (laid f).climbing in
    ap (λ p. key (foot_entry p)) c.is
    ∙ ap key (foot_entry_climb (foot (key_at a 0) (child_at a (left_at a)) (child_at a (right_at a))) (entries width (get_or a 0 0 - 1 - 0) (drop (1 + 1 * 20) a)) c.left)
    ∙ key_of a 0

-- The ends of the code

module _ (H : Octets → Octets) (x d a : Octets) {b : Bool} (eh : b ≡ hidden x (shown a)) where
  pub judged_hidden : b ≡ true → Refused child_at_foot 0 ≡ verdict_of (judge H x d (shown a))
  unfolding verdict_of
  judged_hidden h = ap verdict_of (sym (judge_hidden H x d (shown a) (sym eh ∙ h)))

  module _ (open_foot : b ≡ false) where
    pub judged_fault : {j : ℕ} → some j ≡ fault x (shown a) → Refused key_above j ≡ verdict_of (judge H x d (shown a))
    unfolding verdict_of
    judged_fault {j} e = ap verdict_of (sym (judge_fault H x d (shown a) (sym eh ∙ open_foot) j (sym e)))

    module _ (faultless : none ≡ fault x (shown a)) {r l : Octets} (er : r ≡ root_record H x (down 0 (shown a))) (el : l ≡ H r) where
      root_is : same l d ≡ same (H (root_record H x (shown a))) d
      unfolding down
      root_is = ap (λ s. same s d) (el ∙ ap H er)

      pub judged_other : same l d ≡ false → Refused other_digest 0 ≡ verdict_of (judge H x d (shown a))
      unfolding verdict_of
      judged_other s = ap verdict_of (sym (judge_other H x d (shown a) (sym eh ∙ open_foot) (sym faultless) (sym root_is ∙ s)))

      module _ (s : same l d ≡ true) (f : ∥ Formed a ∥₁) {k : Octets} (ek : k ≡ key_at a 0) where
        accepted : verdict_of (judge H x d (shown a)) ≡ verdict_of (cond (same x k) present absent)
        accepted = ap verdict_of (judge_accepts H x d (shown a) (sym eh ∙ open_foot) (sym faultless) (sym root_is ∙ s) ∙ rw (foot_shown a f, ek))

        pub judged_present : same x k ≡ true → Present ≡ verdict_of (judge H x d (shown a))
        unfolding verdict_of
        judged_present t = sym (accepted ∙ rw t)

        pub judged_absent : same x k ≡ false → Absent ≡ verdict_of (judge H x d (shown a))
        unfolding verdict_of
        judged_absent t = sym (accepted ∙ rw t)
