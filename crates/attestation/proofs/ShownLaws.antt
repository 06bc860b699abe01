-- Octets of the form, in the code's terms: every part stands inside them, an optional label is what its count says, and the
-- climb from the foot takes one key and one sibling a level.
use mathlib.Core.Path.{◌≡◌, refl, sym, ap, ◌∙◌}
use mathlib.Core.HLevel.{⊥_prop}
use mathlib.Core.Logic.{∥∥₁_elim}
use mathlib.Core.Option.{none, some}
use Prim.Native.Nat.{ℕ, suc, ◌+◌, ◌*◌, ◌≤◌, ◌<◌}
use native.Mathlib.Decide.{dec_le}
use native.Mathlib.Nat.{le_refl}
use native.Mathlib.Omega.{arith}
use borrow.Author.Tests.{eq-eqb, ne_eqb, lt-ltb, le-ltb}
use lib.Dec.{ltb}
use lib.ListN.{length, take, drop, get_or, length-drop, length-take}
use lib.Seq.{take-take}
use Rattle.octets.specs.Order.{Octets}
use Rattle.attester.specs.Entry.{key}
use Rattle.attester.specs.Record.{Child, bit}
use Rattle.attester.specs.Path.{Path, foot, step}
use Rattle.attester.specs.Form.{Form, formed, ended, spoilt, form, path_read}
use Rattle.attester.specs.Form as forms
use Rattle.attester.proofs.OffsetLaws.{OptionalAt, optional_wrong, optional_none, optional_some, optional_cut}
use Rattle.attester.proofs.LayoutLaws.{layout, Climbing, climb_start, climb_next}
use Rattle.tree.specs.Labels.{one_if}
use Rattle.tree.specs.Edition.{width}
use Rattle.attestation.specs.Shown.{shown, Formed, key_at, child_at, behind, left_at, right_at, count_at}

-- An optional label, by its count

module _ (a : Octets) (at : ℕ) where
  behind_none : get_or a at 0 ≡ 0 → behind a at ≡ suc at
  behind_none e = rw (eq-eqb (get_or a at 0) 0 e)

  behind_some : (get_or a at 0 ≡ 0 → ⊥) → behind a at ≡ at + 33
  behind_some n = rw (ne_eqb (get_or a at 0) 0 n)

  child_none : get_or a at 0 ≡ 0 → child_at a at ≡ none
  child_none e = rw (eq-eqb (get_or a at 0) 0 e)

  child_some : (get_or a at 0 ≡ 0 → ⊥) → child_at a at ≡ some (take 32 (drop (suc at) a))
  child_some n = rw (ne_eqb (get_or a at 0) 0 n)

  pub child_bit : one_if (ltb 0 (get_or a at 0)) ≡ bit (child_at a at)
  child_bit =
      elim (dec_le (get_or a at 0) 0) [
        | yes h ↦ rw (child_none (omega arith), le-ltb 0 (get_or a at 0) h)
        | no h ↦ rw (child_some (λ e. omega arith), lt-ltb 0 (get_or a at 0) (omega arith))
      ]

  -- the label that was read there
  record There (c : Child) (next : ℕ) : Type 0 where
    pub is : c ≡ child_at a at
    pub ends : next ≡ behind a at

  there : (next : ℕ) (o : OptionalAt a at next) → There o.child next
  there next o =
      let inside : at < length a = omega (arith, o.further, o.inside) in
      elim (dec_le (get_or a at 0) 0) [
        | yes h ↦ of_none (omega arith) inside
        | no h ↦ elim (dec_le (get_or a at 0) 1) [
          | yes k ↦ of_some (omega arith) (λ e. omega arith) inside
          | no k ↦
              let u = optional_wrong a at inside (omega arith) in
              let v = o.is in
              let z : ◌≡◌ {A = ℕ} 0 1 = cc in
              absurd (omega arith)
        ]
      ]
    where
      -- what is left tells the offset
      same_offset : (m n : ℕ) → m ≤ length a → n ≤ length a → drop m a ≡ drop n a → m ≡ n
      same_offset m n h k e = omega (arith, length-drop m a, length-drop n a, ap length e)

      of_none : get_or a at 0 ≡ 0 → at < length a → There o.child next
      of_none e inside =
          let u = optional_none a at inside e in
          let v = o.is in
          let ends : drop (suc at) a ≡ drop next a = cc in
          let c : o.child ≡ none = cc in
          record {
            is = c ∙ sym (child_none e);
            ends = sym (same_offset (suc at) next inside o.inside ends) ∙ sym (behind_none e);
          }

      of_some : get_or a at 0 ≡ 1 → (get_or a at 0 ≡ 0 → ⊥) → at < length a → There o.child next
      of_some e n inside =
          elim (dec_le (at + 33) (length a)) [
            | yes h ↦
                let u = optional_some a at h e in
                let v = o.is in
                let ends : drop (at + 33) a ≡ drop next a = cc in
                let c : o.child ≡ some (take 32 (drop (suc at) a)) = cc in
                record {
                  is = c ∙ sym (child_some n);
                  ends = sym (same_offset (at + 33) next h o.inside ends) ∙ sym (behind_some n);
                }
            | no h ↦
                let u = optional_cut a at inside (omega arith) e in
                let v = o.is in
                let z : ◌≡◌ {A = ℕ} 0 1 = cc in
                absurd (omega arith)
          ]

-- Where the sections stand

pub record Laid (a : Octets) : Type 0 where
  pub some_key : 1 ≤ get_or a 0 0
  pub few_keys : get_or a 0 0 ≤ 32
  pub keys_in : 1 + 20 * get_or a 0 0 ≤ length a
  pub left_in : left_at a < length a
  pub right_in : right_at a < length a
  pub count_in : count_at a < length a
  pub climbing : Climbing width a (shown a) 0 (suc (count_at a)) (foot (key_at a 0) (child_at a (left_at a)) (child_at a (right_at a)))

-- the form tells whether octets have it: so that they have it holds in one way at most
formed_of : (a : Octets) → ∥ Formed a ∥₁ → Formed a
unfolding forms.shown
formed_of a t = go (form width a) refl
  where
    -- octets of another form have not this one
    other : (f : Form) → form width a ≡ f → (f ≡ formed (shown a) → ⊥) → Formed a
    other f e n = absurd (∥∥₁_elim t ⊥_prop (λ g. n (sym e ∙ g)))

    go : (f : Form) → form width a ≡ f → Formed a
    go (formed p) e = e ∙ ap formed (sym (ap path_read e))
    go (ended n) e = other (ended n) e (λ g. let z : ◌≡◌ {A = ℕ} 0 1 = cc in omega arith)
    go (spoilt n) e = other (spoilt n) e (λ g. let z : ◌≡◌ {A = ℕ} 0 1 = cc in omega arith)

pub laid : {a : Octets} → ∥ Formed a ∥₁ → Laid a
laid {a} f =
    let o = layout width a (shown a) (formed_of a f) in
    let at_left : 1 + get_or a 0 0 * 20 ≡ 1 + 20 * get_or a 0 0 = omega arith in
    let left = there a (1 + get_or a 0 0 * 20) o.left_end o.left in
    let at_right : o.left_end ≡ behind a (1 + 20 * get_or a 0 0) = left.ends ∙ ap (behind a) at_left in
    let right = there a o.left_end o.right_end o.right in
    let at_count : o.right_end ≡ behind a (behind a (1 + 20 * get_or a 0 0)) = right.ends ∙ ap (behind a) at_right in
    record {
      some_key = o.some_key;
      few_keys = o.few_keys;
      keys_in = omega (arith, o.left.further, o.left.inside);
      left_in = omega (arith, o.left.further, o.left.inside);
      right_in = omega (arith, at_right, o.right.further, o.right.inside);
      count_in = omega (arith, at_count, o.inside);
      climbing = climbing_at (ap suc at_count) (same_foot (left.is ∙ ap (child_at a) at_left) (right.is ∙ ap (child_at a) at_right)) (climb_start width a (shown a) o);
    }
  where
    climbing_at : {m n : ℕ} {p q : Path} → m ≡ n → p ≡ q → Climbing width a (shown a) 0 m p → Climbing width a (shown a) 0 n q
    climbing_at {m} {n} {p} {q} e g c = rw (← e, ← g) c

    same_foot : {e : Octets} {l m r q : Child} → l ≡ m → r ≡ q → foot e l r ≡ foot e m q
    same_foot g h = cc

pub key_length : (a : Octets) (j : ℕ) → 21 + 20 * j ≤ length a → length (key_at a j) ≡ 20
key_length a j h = simp (length-take, length-drop) (omega arith)

-- what the parts are taken by
pub ruleset layout_laws = (laid, key_length, child_bit)

-- kj is its own key
pub key_of : (a : Octets) (j : ℕ) → key (key_at a j) ≡ key_at a j
unfolding key
key_of a j = take-take 20 20 (drop (1 + 20 * j) a) (le_refl 20)

-- One level up

module _ (a : Octets) (p : Path) (j at : ℕ) (q : Path) (c : Climbing width a p j at q) (h : suc j < get_or a 0 0) where
  pub record Higher : Type 0 where
    pub inside : at < length a
    pub ends : behind a at ≤ length a
    pub climbing : Climbing width a p (suc j) (behind a at) (step (key_at a (suc j)) (child_at a at) q)

  pub higher : Higher
  higher =
      let n = climb_next width a p j at q c h in
      let t = there a at n.next n.sibling in
      let offset : 1 + suc j * 20 ≡ 1 + 20 * suc j = omega arith in
      record {
        inside = omega (arith, n.sibling.further, n.sibling.inside);
        ends = omega (arith, t.ends, n.sibling.inside);
        climbing = higher_at t.ends (same_step (ap (λ m. take 20 (drop m a)) offset) t.is) n.climbing;
      }
    where
      higher_at : {m n : ℕ} {r s : Path} → m ≡ n → r ≡ s → Climbing width a p (suc j) m r → Climbing width a p (suc j) n s
      higher_at e g d = rw (← e, ← g) d

      same_step : {d e : Octets} {r s : Child} → d ≡ e → r ≡ s → step d r q ≡ step e s q
      same_step g k = cc
