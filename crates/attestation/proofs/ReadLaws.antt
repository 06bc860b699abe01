-- The answer of a reading: from what was read, and back to it. A refusal is the answer of each longer reading too.
use mathlib.Core.Path.{◌≡◌, refl, sym, ap, ◌∙◌}
use Prim.Native.Nat.{ℕ, ◌-◌, ◌≤◌}
use native.Mathlib.Omega.{arith}
use lib.ListN.{length, drop, length-drop}
use Rattle.answer.specs.Answer.{Answer, Done, Refused}
use Rattle.answer.specs.Refusals as refusal
use Rattle.octets.specs.Order.{Octets}
use Rattle.attester.specs.Reader.{Stop, short, wrong, Read, got, stopped}
use Rattle.attestation.specs.Form.{read_answer}

-- From what was read of the octets a

module _ {A : Type 0} (a : Octets) {m : Read A} where
  pub answer_short : m ≡ stopped short → Refused refusal.form (length a) ≡ read_answer (length a) m
  unfolding read_answer
  answer_short e = rw e

  pub answer_wrong : (at : ℕ) → at ≤ length a → m ≡ stopped (wrong (length a - at)) → Refused refusal.form at ≡ read_answer (length a) m
  unfolding read_answer
  answer_wrong at h e = let place : length a - (length a - at) ≡ at = omega arith in rw (e, place)

  pub answer_got : (end : ℕ) {v : A} → end ≤ length a → m ≡ got v (drop end a) → Done end ≡ read_answer (length a) m
  unfolding read_answer
  answer_got end h e = let place : length a - length (drop end a) ≡ end = simp length-drop (omega arith) in rw (e, place)

-- Back to it, of n octets

-- a reading that went as far as the offset `end`
pub record Went {A : Type 0} (n : ℕ) (m : Read A) (end : ℕ) : Type 0 where
  pub value : A
  pub rest : Octets
  pub is : m ≡ got value rest
  pub ends : end ≡ n - length rest

module _ {A : Type 0} (n : ℕ) (m : Read A) {r : Answer} (told : r ≡ read_answer n m) where
  pub answer_went : {end : ℕ} → r ≡ Done end → Went n m end
  unfolding read_answer
  answer_went {end} e = go m refl (sym told ∙ e)
    where
      go : (o : Read A) → m ≡ o → read_answer n o ≡ Done end → Went n m end
      go (got v s) h d = record { value = v; rest = s; is = h; ends = cc }
      go (stopped short) h d = let z : ◌≡◌ {A = ℕ} 0 1 = cc in absurd (omega arith)
      go (stopped (wrong left)) h d = let z : ◌≡◌ {A = ℕ} 0 1 = cc in absurd (omega arith)

  -- the refusal is also that of a reading that stops where this one does
  pub answer_stopped : {B : Type 0} (whole : Read B) {k p : ℕ} → ((s : Stop) → m ≡ stopped s → whole ≡ stopped s) → r ≡ Refused k p
      → r ≡ read_answer n whole
  unfolding read_answer
  answer_stopped {B} whole {k} {p} stops e = go m refl (sym told ∙ e)
    where
      go : (o : Read A) → m ≡ o → read_answer n o ≡ Refused k p → r ≡ read_answer n whole
      go (got v s) h d = let z : ◌≡◌ {A = ℕ} 0 1 = cc in absurd (omega arith)
      go (stopped short) h d = rw (stops short h) (told ∙ ap (read_answer n) h)
      go (stopped (wrong left)) h d = rw (stops (wrong left) h) (told ∙ ap (read_answer n) h)
