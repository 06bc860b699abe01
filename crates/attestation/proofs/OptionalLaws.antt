-- The answer of reading optional labels, one after the other, from an offset on.
use mathlib.Core.Path.{◌≡◌, refl, sym, ap, subst}
use mathlib.Core.List.{List, ◌∷◌}
use Prim.Native.Nat.{ℕ, zero, suc, ◌+◌, ◌-◌, ◌≤◌, ◌<◌}
use native.Mathlib.Numerals.{add-one}
use native.Mathlib.Omega.{arith}
use borrow.Author.Tests.{eq-eqb, ne_eqb}
use lib.Dec.{eqb}
use lib.ListN.{length, drop, get_or, length-append, length-drop}
use Rattle.answer.specs.Answer.{Answer, Done}
use Rattle.octets.specs.Order.{Octets}
use Rattle.attester.specs.Record.{Child}
use Rattle.attester.specs.Reader.{Stop, short, wrong, Read, got, stopped, after, give, many}
use Rattle.attester.specs.Form.{optional}
use Rattle.attester.proofs.RecordLaws.{bit_most}
use Rattle.attester.proofs.ReaderLaws.{many_next, many_stop}
use Rattle.attester.proofs.LengthLaws.{optional_octets_length}
use Rattle.attester.proofs.FormLaws.{optional_inverse}
use Rattle.attester.proofs.OffsetLaws.{octet_end, octet_at, octet_wrong, OptionalAt, optional_at}
use Rattle.attestation.specs.Form.{read_answer, siblings_section}
use Rattle.attestation.proofs.ReadLaws.{answer_got, answer_went}

module _ (a : Octets) (at : ℕ) where
  -- One label

  pub optional_done : {r : Answer} {next : ℕ} → at ≤ length a → r ≡ read_answer (length a) (optional (drop at a)) → r ≡ Done next
      → OptionalAt a at next
  optional_done h told e =
      let g = answer_went (length a) (optional (drop at a)) told e in
      subst (OptionalAt a at) (sym g.ends) (optional_at a at g.value g.rest h g.is)

  pub optional_near : {next : ℕ} → OptionalAt a at next → next ≤ at + 33
  optional_near {next} o =
      let d = optional_inverse.only o.child (drop at a) (drop next a) o.is in
      omega (
        arith,
        simp (length-append, length-drop) at (ap length d.0),
        optional_octets_length o.child d.1,
        bit_most o.child,
        o.further,
        o.inside,
      )

  -- The labels that are left

  pub labels_none : (left : ℕ) → left ≡ 0 → at ≤ length a → Done at ≡ read_answer (length a) (many optional left (drop at a))
  unfolding many
  labels_none left z h = rw z (answer_got a at h refl)

  pub labels_stop : (left : ℕ) → 0 < left → (s : Stop) → optional (drop at a) ≡ stopped s → many optional left (drop at a) ≡ stopped s
  labels_stop zero h s e = absurd (omega arith)
  labels_stop (suc m) h s e = many_stop optional m (drop at a) s e

  pub labels_next : (left : ℕ) {next : ℕ} → 0 < left → OptionalAt a at next
      → read_answer (length a) (many optional left (drop at a)) ≡ read_answer (length a) (many optional (left - 1) (drop next a))
  unfolding read_answer
  labels_next zero h o = absurd (omega arith)
  labels_next (suc m) {next} h o =
      let one_less : suc m - 1 ≡ m = omega arith in
      rw (one_less, many_next optional m o.child (drop at a) (drop next a) o.is) (go (many optional m (drop next a)))
    where
      go : (l : Read (List Child)) → read_answer (length a) (after l (λ cs. give (o.child ∷ cs))) ≡ read_answer (length a) l
      go (got cs s) = refl
      go (stopped short) = refl
      go (stopped (wrong n)) = refl

  -- Labels whose number m stands in front of them

  module _ (m : ℕ) where
    pub siblings_end : length a ≤ at → siblings_section m (drop at a) ≡ stopped short
    unfolding siblings_section
    siblings_end h = rw (octet_end (λ n. eqb n m) a at h)

    pub siblings_wrong : at < length a → (get_or a at 0 ≡ m → ⊥) → siblings_section m (drop at a) ≡ stopped (wrong (length a - at))
    unfolding siblings_section
    siblings_wrong h e = rw (octet_wrong (λ n. eqb n m) a at h (ne_eqb (get_or a at 0) m e))

    pub siblings_many : at < length a → get_or a at 0 ≡ m → siblings_section m (drop at a) ≡ many optional m (drop (at + 1) a)
    unfolding siblings_section
    siblings_many h e = rw (octet_at (λ n. eqb n m) a at h (eq-eqb (get_or a at 0) m e), e, add-one)
