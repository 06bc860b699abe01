-- Demand 3 at the profile's label, from the theory's: verdicts that contradict each other are of accepted paths that differ, so the walk finds
-- two records, and each fills its buffer.
use mathlib.Core.Path.{◌≡◌, refl, sym, ap, ◌∙◌}
use mathlib.Core.Bool.{true}
use mathlib.Core.Logic.{inl, inr}
use Prim.Native.Nat.{ℕ}
use native.Mathlib.Omega.{arith}
use borrow.Author.Tests.{eq-eqb}
use lib.ListN.{length}
use Rattle.answer.specs.Answer.{Answer, Done, Refused, written}
use Rattle.answer.specs.Verdict.{Present, Absent, Verdict}
use Rattle.answer.specs.Verdict as verdicts
use Rattle.answer.proofs.WrittenLaws.{written_whole}
use Rattle.answer.specs.Refusals.{unknown_profile}
use Rattle.octets.specs.Order.{Octets}
use Rattle.sha256.specs.Fips180.{sha256}
use Rattle.sha256.specs.Hash.{Hashed, hash_answer}
use Rattle.sha256.proofs.Fips180Laws.{sha256_length}
use Rattle.profile.specs.Profile.{known, kept, label}
use Rattle.profile.proofs.ProfileLaws.{label_length, in_known, other_known}
use Rattle.attester.specs.Verdict.{Judgement, present, absent, Accepted}
use Rattle.attester.specs.Verdict as verdict
use Rattle.attester.specs.Form.{shown}
use Rattle.attester.specs.Verify.{verify}
use Rattle.attester.specs.Extract.{extracted, sized, extract}
use Rattle.attester.specs.Demand3.{Walked}
use Rattle.attester.proofs.VerifyLaws.{verify_accepted}
use Rattle.attester.proofs.Demand3 as theory
use Rattle.attester.proofs.ExtractLaws.{extract_found}
use Rattle.tree.specs.Edition.{width}
use Rattle.attestation.specs.Verify.{verdict_of, Verified}
use Rattle.extractor.specs.Extract.{Extracted, extraction_answer, first_record, second_record}
use Rattle.sagebutton.specs.Demand3.{HashAlike, Collides, Contradict, Demand3}

-- Verdicts back to judgements

judged_present : (j : Judgement) → Present ≡ verdict_of j → j ≡ present
unfolding verdict_of
judged_present present e = refl
judged_present absent e = let z : ◌≡◌ {A = ℕ} 0 1 = cc in absurd (omega arith)
judged_present (verdict.refused m p) e = let z : ◌≡◌ {A = ℕ} 0 1 = cc in absurd (omega arith)

judged_absent : (j : Judgement) → Absent ≡ verdict_of j → j ≡ absent
unfolding verdict_of
judged_absent absent e = refl
judged_absent present e = let z : ◌≡◌ {A = ℕ} 0 1 = cc in absurd (omega arith)
judged_absent (verdict.refused m p) e = let z : ◌≡◌ {A = ℕ} 0 1 = cc in absurd (omega arith)

-- a verdict that accepts is of a known profile
accepted_known : (profile : ℕ) (x d a : Octets) (v : Verdict) → Verified profile x d a v → (v ≡ verdicts.Refused unknown_profile 0 → ⊥) → known profile ≡ true
accepted_known profile x d a v e n = other_known verdicts.Refused profile (verdict_of (verify (label profile) width x d a)) e.answered n

-- both are accepted, and not alike
record Opposed (profile : ℕ) (x d a b : Octets) : Type 0 where
  first : Accepted (verify (label profile) width x d a)
  second : Accepted (verify (label profile) width x d b)
  differ : verify (label profile) width x d a ≡ verify (label profile) width x d b → ⊥

-- Present or Absent, as a judgement
module _ (profile : ℕ) (x d a : Octets) where
  told : (v : Verdict) → (v ≡ verdicts.Refused unknown_profile 0 → ⊥) → Verified profile x d a v → v ≡ verdict_of (verify (label profile) width x d a)
  told v n e =
      e.answered ∙ in_known verdicts.Refused profile (verdict_of (verify (label profile) width x d a)) (accepted_known profile x d a v e n)

  pub is_present : Verified profile x d a Present → verify (label profile) width x d a ≡ present
  is_present e =
      judged_present (verify (label profile) width x d a) (told Present (λ f. let z : ◌≡◌ {A = ℕ} 0 1 = cc in omega arith) e)

  pub is_absent : Verified profile x d a Absent → verify (label profile) width x d a ≡ absent
  is_absent e =
      judged_absent (verify (label profile) width x d a) (told Absent (λ f. let z : ◌≡◌ {A = ℕ} 0 1 = cc in omega arith) e)

opposed : (profile : ℕ) (x d a b : Octets) → Contradict profile x d a b → Opposed profile x d a b
opposed profile x d a b (inl c) =
    let f = is_present profile x d a c.0 in
    let g = is_absent profile x d b c.1 in
    record { first = rw f tt; second = rw g tt; differ = λ e. let z : ◌≡◌ {A = ℕ} 0 1 = cc in omega arith }
opposed profile x d a b (inr c) =
    let f = is_absent profile x d a c.0 in
    let g = is_present profile x d b c.1 in
    record { first = rw f tt; second = rw g tt; differ = λ e. let z : ◌≡◌ {A = ℕ} 0 1 = cc in omega arith }

contradict_known : (profile : ℕ) (x d a b : Octets) → Contradict profile x d a b → known profile ≡ true
contradict_known profile x d a b (inl c) = accepted_known profile x d a Present c.0 (λ f. let z : ◌≡◌ {A = ℕ} 0 1 = cc in omega arith)
contradict_known profile x d a b (inr c) = accepted_known profile x d a Absent c.0 (λ f. let z : ◌≡◌ {A = ℕ} 0 1 = cc in omega arith)

-- a whole buffer is written
whole : (n : ℕ) (s out : Octets) {out' : Octets} → length s ≡ length out → out' ≡ written (Done n) s out → out' ≡ s
whole n s out l e = e ∙ written_whole n s out l

-- what `hash` answers and leaves of 85 octets
hashed : (msg h : Octets) (s : Answer) (h' : Octets) → length msg ≡ 85 → length h ≡ 32 → Hashed msg h s h' → (s ≡ Done 85) × (h' ≡ sha256 msg)
unfolding hash_answer
hashed msg h s h' l k g =
    let done : s ≡ Done 85 = g.answered ∙ rw (l, k) in
    (done, whole 85 (sha256 msg) h (sha256_length msg ∙ sym k) (rw done at g.left))

alike : (profile : ℕ) (r s : Octets) → length r ≡ 85 → length s ≡ 85 → label profile r ≡ label profile s → HashAlike profile r s
unfolding label
alike profile r s n m e h k l o t u h' k' f g =
    let p = hashed r h t h' n l f in
    let q = hashed s k u k' m o g in
    (p.0, q.0, ap (kept profile) p.1 ∙ (e ∙ ap (kept profile) (sym q.1)))

module _ (profile : ℕ) (x d a b : Octets) (c : Contradict profile x d a b) (out₁ out₂ : Octets) (n : length out₁ ≡ 85) (m : length out₂ ≡ 85) where
  o : Opposed profile x d a b
  o = opposed profile x d a b c

  u : Walked (label profile) x (shown width a) (shown width b)
  u = theory.demand_3 (label profile) width (label_length profile) x d a b o.first o.second (theory.verdicts_tell_paths (label profile) width x d a b o.first o.second o.differ)

  sizes : sized width (length x) (length d) (length out₁) (length out₂) ≡ true
  unfolding sized
  sizes =
      let v = verify_accepted (label profile) width x d a o.first in
      rw (eq-eqb (length x) 20 v.key_size, eq-eqb (length d) 32 v.digest_size, eq-eqb (length out₁) 85 n, eq-eqb (length out₂) 85 m)

  found : extract (label profile) width x d a b (length out₁) (length out₂) ≡ extracted u.found
  found = extract_found (label profile) width x d a b (length out₁) (length out₂) sizes o.first o.second o.differ u.found u.is

  module _ (r : Answer) (out₁' out₂' : Octets) (e : Extracted profile x d a b out₁ out₂ r out₁' out₂') where
    answers : r ≡ Done u.found.passed
    unfolding extraction_answer
    answers =
        e.answered
        ∙ in_known Refused profile (extraction_answer (extract (label profile) width x d a b (length out₁) (length out₂))) (contradict_known profile x d a b c)
        ∙ rw found

    first_is : out₁' ≡ u.found.first
    unfolding first_record
    first_is =
        let l : out₁' ≡ written (Done u.found.passed) u.found.first out₁ = rw (found, answers) at e.first_left in
        whole u.found.passed u.found.first out₁ (theory.rebuilt_length (label profile) (label_length profile) width x d a o.first u.contradiction.first_rebuilt ∙ sym n) l

    second_is : out₂' ≡ u.found.second
    unfolding second_record
    second_is =
        let l : out₂' ≡ written (Done u.found.passed) u.found.second out₂ = rw (found, answers) at e.second_left in
        whole u.found.passed u.found.second out₂ (theory.rebuilt_length (label profile) (label_length profile) width x d b o.second u.contradiction.second_rebuilt ∙ sym m) l

    first_long : length out₁' ≡ 85
    first_long = rw first_is (theory.rebuilt_length (label profile) (label_length profile) width x d a o.first u.contradiction.first_rebuilt)

    second_long : length out₂' ≡ 85
    second_long = rw second_is (theory.rebuilt_length (label profile) (label_length profile) width x d b o.second u.contradiction.second_rebuilt)

    same_label : label profile out₁' ≡ label profile out₂'
    same_label = ap (label profile) first_is ∙ (u.contradiction.same_label ∙ ap (label profile) (sym second_is))

    collides : Collides profile x a b r out₁' out₂'
    collides = record {
      passed = u.found.passed;
      answers = answers;
      first_rebuilt = rw first_is u.contradiction.first_rebuilt;
      second_rebuilt = rw second_is u.contradiction.second_rebuilt;
      differ = λ s. u.contradiction.differ (sym first_is ∙ (s ∙ second_is));
      same_label = same_label;
      hash_alike = alike profile out₁' out₂' first_long second_long same_label;
    }

pub demand_3 : Demand3
demand_3 = collides
