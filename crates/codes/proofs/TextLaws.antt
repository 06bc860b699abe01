-- The text's definitions in the code's terms: what a sound line is, and one more line of the judgement.
use mathlib.Core.Path.{◌≡◌, refl, sym, ◌∙◌}
use mathlib.Core.Bool.{Bool, true, false, cond}
use mathlib.Core.List.{[], ◌∷◌}
use mathlib.Core.Option.{Option, none, some}
use Prim.Native.Nat.{Ordering}
use Prim.Native.Nat.{ℕ, zero, suc, ◌+◌, ◌-◌, ◌≤◌, ◌<◌}
use native.Mathlib.Omega.{arith}
use borrow.Author.Tests.{ne_eqb}
use lib.ListN.{length, replicate}
use Rattle.answer.specs.Answer.{Answer, Done, Refused}
use Rattle.answer.specs.Refusals.{not_ascending, not_a_code, lines}
use Rattle.octets.specs.Order.{Octets, order, same, is_less}
use Rattle.octets.proofs.OrderLaws.{lt_compare, same_true, same_refl}
use Rattle.std.specs.Prelude.{nat_eq}
use Rattle.std.specs.Cmp.Lexicographic.{pointwise}
use Rattle.std.proofs.lemmas.Slice.Eq.{slice_eq-Decides}
use Rattle.std.proofs.lemmas.Bool.Decides.{same_from_decides, Decides-eqb}
use Rattle.codes.specs.Code.{within, all, hyphen, character, digit, letter, is_code, key_of}
use Rattle.codes.specs.Text.{Reading, accepted, refused, ended, line, rest, above, fault, more, codes}
use Rattle.codes.specs.Read.{answer}
use Rattle.codes.proofs.Tests.{both}
use Rattle.codes.proofs.CountLaws.{within_true}

-- Codes

pub record Code (s : Octets) : Type 0 where
  pub some_octets : 1 ≤ length s
  pub few : length s ≤ 20
  pub characters : all character s ≡ true

pub code_parts : (s : Octets) → is_code s ≡ true → Code s
unfolding is_code
code_parts s e =
    let h = both (within 1 20 (length s)) _ e in
    let k = both (all character s) _ h.1 in
    let w = within_true 1 20 (length s) h.0 in
    record { some_octets = w.0; few = w.1; characters = k.0 }

pub zero_no_character : character 0 ≡ false
unfolding character digit letter within hyphen
zero_no_character = refl

-- twenty zeros stand below every code's key
zeros_below : (s : Octets) → 1 ≤ length s → all character s ≡ true → order (replicate 20 0) (key_of s) ≡ Ordering.lt
unfolding order key_of all
zeros_below [] p e = absurd (omega arith)
zeros_below (zero ∷ s) p e = let z : ◌≡◌ {A = ℕ} 0 1 = cc zero_no_character in absurd (omega arith)
zeros_below (suc c ∷ s) p e = rw (lt_compare 0 (suc c) (omega arith))

-- A line's judgement

pub record SoundLine (b : Option Octets) (s : Octets) : Type 0 where
  pub is_ended : ended s ≡ true
  pub code : is_code (line s) ≡ true
  pub rises : above b (key_of (line s)) ≡ true

pub sound_line : (b : Option Octets) (s : Octets) → fault b s ≡ 0 → SoundLine b s
unfolding fault
sound_line b s e₀ = go (ended s) (is_code (line s)) (above b (key_of (line s))) refl refl refl e₀
  where
    go : (x y z : Bool) → ended s ≡ x → is_code (line s) ≡ y → above b (key_of (line s)) ≡ z
        → cond x (cond y (cond z 0 not_ascending) not_a_code) lines ≡ 0 → SoundLine b s
    go true true true p q r e = record { is_ended = p; code = q; rises = r }
    go true true false p q r e = absurd (omega arith)
    go true false z p q r e = absurd (omega arith)
    go false y z p q r e = absurd (omega arith)

pub line_sound : (b : Option Octets) (s : Octets) → SoundLine b s → fault b s ≡ 0
unfolding fault
line_sound b s h = rw (h.is_ended, h.code, h.rises)

-- no code stands before the first
fault_first : (s : Octets) → fault (some (replicate 20 0)) s ≡ fault none s
unfolding fault above
fault_first s = go (is_code (line s)) refl
  where
    go : (y : Bool) → is_code (line s) ≡ y
        → cond (ended s) (cond (is_code (line s)) (cond (is_less (order (replicate 20 0) (key_of (line s)))) 0 not_ascending) not_a_code) lines
        ≡ cond (ended s) (cond (is_code (line s)) (cond true 0 not_ascending) not_a_code) lines
    go false e = rw e
    go true e = let c = code_parts (line s) e in rw (e, zeros_below (line s) c.some_octets c.characters)

pub codes_first : (n p : ℕ) (s : Octets) → codes n p (some (replicate 20 0)) s ≡ codes n p none s
unfolding codes
codes_first zero p [] = refl
codes_first zero p (c ∷ s) = refl
codes_first (suc n) p s = rw (fault_first s)

-- One more line

pub told : ℕ → Reading → Answer
told i (accepted ks) = Done (i + length ks)
told i (refused m p) = Refused m p

told_none : (r : Reading) → told 0 r ≡ answer r
unfolding told answer
told_none (accepted ks) = let z : 0 + length ks ≡ length ks = omega arith in rw z
told_none (refused m p) = refl

told_more : (i : ℕ) (k : Octets) (r : Reading) → told i (more k r) ≡ told (i + 1) r
unfolding told more
told_more i k (accepted ks) = let z : i + suc (length ks) ≡ i + 1 + length ks = omega arith in rw z
told_more i k (refused m p) = refl

codes_more : (m p : ℕ) (b : Option Octets) (s : Octets) → fault b s ≡ 0
    → codes (suc m) p b s ≡ more (key_of (line s)) (codes m (suc p) (some (key_of (line s))) (rest s))
unfolding codes
codes_more m p b s e = rw e

codes_stop : (m p : ℕ) (b : Option Octets) (s : Octets) → (fault b s ≡ 0 → ⊥) → codes (suc m) p b s ≡ refused (fault b s) p
unfolding codes
codes_stop m p b s h = rw (ne_eqb (fault b s) 0 h)

-- the judging loop: what is left of the lines tells what all of them tell
pub judge_start : (n : ℕ) (s : Octets) → told 0 (codes (n - 0) (3 + 0) (some (replicate 20 0)) s) ≡ answer (codes n 3 none s)
judge_start n s =
    let z : n - 0 ≡ n = omega arith in
    rw (z, codes_first n 3 s) (told_none (codes n 3 none s))

left_over : (i p : ℕ) (b : Option Octets) (s : Octets) → 0 < length s → told i (codes 0 p b s) ≡ Refused lines p
unfolding codes told
left_over i p b [] h = absurd (omega arith)
left_over i p b (c ∷ s) h = refl

done : (i p : ℕ) (b : Option Octets) (s : Octets) → length s ≡ 0 → told i (codes 0 p b s) ≡ Done i
unfolding codes told
done i p b [] h = let z : i + 0 ≡ i = omega arith in rw z
done i p b (c ∷ s) h = absurd (omega arith)

module _ (n i : ℕ) (s before : Octets) (a : Answer) (h : told i (codes (n - i) (3 + i) (some before) s) ≡ a) where
  module _ (l : i < n) where
    pub judge_turn : {key others : Octets} → fault (some before) s ≡ 0 → key ≡ key_of (line s) → others ≡ rest s
        → told (i + 1) (codes (n - (i + 1)) (3 + (i + 1)) (some key) others) ≡ a
    judge_turn {key} {others} f k r =
        let m : n - i ≡ suc (n - (i + 1)) = omega arith in
        let p : suc (3 + i) ≡ 3 + (i + 1) = omega arith in
        let t : told i (codes (suc (n - (i + 1))) (3 + i) (some before) s) ≡ a = rw m at h in
        let u : told i (more (key_of (line s)) (codes (n - (i + 1)) (suc (3 + i)) (some (key_of (line s))) (rest s))) ≡ a =
        rw (codes_more (n - (i + 1)) (3 + i) (some before) s f) at t in
        let v : told i (more key (codes (n - (i + 1)) (3 + (i + 1)) (some key) others)) ≡ a = rw (← k, p, ← r) at u in
        sym (told_more i key (codes (n - (i + 1)) (3 + (i + 1)) (some key) others)) ∙ v

    pub judge_fault : (f : ℕ) → 1 ≤ f → fault (some before) s ≡ f → a ≡ Refused f (3 + i)
    unfolding told
    judge_fault f p e =
        let m : n - i ≡ suc (n - (i + 1)) = omega arith in
        let t : told i (codes (suc (n - (i + 1))) (3 + i) (some before) s) ≡ a = rw m at h in
        sym (rw (← e) (rw (codes_stop (n - (i + 1)) (3 + i) (some before) s (λ z. omega arith)) at t))

  module _ (l : n ≤ i) (few : i ≤ n) where
    nothing_left : told i (codes 0 (3 + i) (some before) s) ≡ a
    nothing_left = let m : n - i ≡ 0 = omega arith in rw m at h

    pub judge_left_over : 0 < length s → a ≡ Refused lines (3 + n)
    judge_left_over p = let m : i ≡ n = omega arith in rw (← m) (sym nothing_left ∙ left_over i (3 + i) (some before) s p)

    pub judge_done : length s ≡ 0 → a ≡ Done n
    judge_done p = let m : i ≡ n = omega arith in rw (← m) (sym nothing_left ∙ done i (3 + i) (some before) s p)

-- the library's equality is the definition's
pub same_is : (a b : Octets) → same a b ≡ pointwise nat_eq a b
same_is a b = same_from_decides (same a b) (pointwise nat_eq a b) (same_true a b, λ e. rw e (same_refl b)) (slice_eq-Decides Decides-eqb a b _ refl)
