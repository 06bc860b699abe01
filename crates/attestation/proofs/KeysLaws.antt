-- The answer of reading the keys, whose number K is the first octet; and what is known of them where they were read.
use mathlib.Core.Path.{◌≡◌, refl, sym, ap, ◌∙◌}
use mathlib.Core.Bool.{Bool, true, false, cond}
use mathlib.Core.List.{[], ◌∷◌}
use Prim.Native.Nat.{ℕ, ◌+◌, ◌*◌, ◌≤◌, ◌<◌}
use native.Mathlib.Decide.{dec_le}
use native.Mathlib.Omega.{arith}
use borrow.Author.Tests.{le-leb, lt-leb}
use lib.ListN.{length, drop, get_or, length-drop}
use Rattle.answer.specs.Answer.{Done, Refused}
use Rattle.answer.specs.Refusals as refusal
use Rattle.octets.specs.Order.{Octets}
use Rattle.attester.specs.Entry.{entries}
use Rattle.attester.specs.Reader.{wrong, got, stopped, after, octet, block, many}
use Rattle.attester.specs.Form.{is_count}
use Rattle.attester.proofs.FormLaws.{true_is_count}
use Rattle.attester.proofs.OffsetLaws.{octet_end, octet_at, octet_wrong, blocks_at, blocks_end}
use Rattle.attestation.specs.Form.{read_answer, keys_section}
use Rattle.attestation.proofs.ReadLaws.{answer_short, answer_wrong, answer_got, Went}

-- Numbers that K may not be

none_is_no_count : (k : ℕ) → k ≡ 0 → is_count k ≡ false
unfolding is_count
none_is_no_count k h = rw h

many_is_no_count : (k : ℕ) → 32 < k → is_count k ≡ false
unfolding is_count
many_is_no_count k h = rw (le-leb 1 k (omega arith), lt-leb k 32 h)

-- The section's ends

module _ (w : ℕ) (a : Octets) where
  pub keys_empty : length a ≡ 0 → Refused refusal.form 0 ≡ read_answer (length a) (keys_section w a)
  unfolding keys_section
  keys_empty h = ap (Refused refusal.form) (sym h) ∙ answer_short a (rw (octet_end is_count a 0 (omega arith)))

  module _ (h : 0 < length a) where
    no_count : is_count (get_or a 0 0) ≡ false → Refused refusal.form 0 ≡ read_answer (length a) (keys_section w a)
    unfolding keys_section
    no_count c = answer_wrong a 0 (omega arith) (rw (octet_wrong is_count a 0 h c))

    pub keys_none : get_or a 0 0 ≡ 0 → Refused refusal.form 0 ≡ read_answer (length a) (keys_section w a)
    keys_none e = no_count (none_is_no_count (get_or a 0 0) e)

    pub keys_many : 32 < get_or a 0 0 → Refused refusal.form 0 ≡ read_answer (length a) (keys_section w a)
    keys_many e = no_count (many_is_no_count (get_or a 0 0) e)

    module _ (low : 1 ≤ get_or a 0 0) (high : get_or a 0 0 ≤ 32) {end : ℕ} (ends : end ≡ 1 + get_or a 0 0 * w) where
      count : is_count (get_or a 0 0) ≡ true
      count = true_is_count (get_or a 0 0) low high

      pub keys_cut : length a < end → Refused refusal.form (length a) ≡ read_answer (length a) (keys_section w a)
      unfolding keys_section
      keys_cut e = answer_short a (rw (octet_at is_count a 0 h count, blocks_end w (get_or a 0 0) a 1 h (omega arith)))

      pub keys_whole : end ≤ length a → Done end ≡ read_answer (length a) (keys_section w a)
      unfolding keys_section
      keys_whole e =
          rw ends (answer_got a (1 + get_or a 0 0 * w) {v = entries w (get_or a 0 0) (drop 1 a)} (omega arith)
          (rw (octet_at is_count a 0 h count, blocks_at w (get_or a 0 0) a 1 (omega arith))))

-- Where they were read

-- the keys end at the offset `end`
pub record KeysAt (w : ℕ) (a : Octets) (end : ℕ) : Type 0 where
  pub some_octet : 0 < length a
  pub counted : is_count (get_or a 0 0) ≡ true
  pub ends : end ≡ 1 + get_or a 0 0 * w
  pub inside : 1 + get_or a 0 0 * w ≤ length a

pub keys_went : (w : ℕ) (a : Octets) {end : ℕ} → Went (length a) (keys_section w a) end → KeysAt w a end
unfolding keys_section octet
keys_went w [] g = let z : ◌≡◌ {A = ℕ} 0 1 = cc g.is in absurd (omega arith)
keys_went w (k ∷ a) {end} g = go (is_count k) refl g.is
  where
    go : (o : Bool) → is_count k ≡ o → after (cond o (got k a) (stopped (wrong (length (k ∷ a))))) (many (block w)) ≡ got g.value g.rest
        → KeysAt w (k ∷ a) end
    go false c e = let z : ◌≡◌ {A = ℕ} 0 1 = cc in absurd (omega arith)
    go true c e =
        elim (dec_le (1 + k * w) (length (k ∷ a))) [
          | yes h ↦ (
              let rest : drop (1 + k * w) (k ∷ a) ≡ g.rest = cc (blocks_at w k (k ∷ a) 1 h) in
              record {
                some_octet = omega arith;
                counted = c;
                ends = omega (arith, g.ends, length-drop (1 + k * w) (k ∷ a), ap length rest);
                inside = h;
              })
          | no h ↦ (let z : ◌≡◌ {A = ℕ} 0 1 = cc (blocks_end w k (k ∷ a) 1 (omega arith) (omega arith)) in absurd (omega arith))
        ]
