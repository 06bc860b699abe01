-- What is handed to the extractor: a list of one key is accepted, so that the digest and the two attestations fill their buffers; and
-- what it answers is the drill's answer.
use mathlib.Core.Path.{◌≡◌, refl, sym, ap, ◌∙◌}
use mathlib.Core.List.{[], ◌∷◌}
use Prim.Native.Nat.{ℕ}
use native.Mathlib.Omega.{arith}
use borrow.Author.Tests.{eq-eqb}
use lib.ListN.{length}
use Rattle.answer.specs.Answer.{Answer, Done, Refused}
use Rattle.answer.proofs.WrittenLaws.{written_whole}
use Rattle.octets.specs.Order.{Octets}
use Rattle.profile.specs.Profile.{drill, label}
use Rattle.profile.proofs.ProfileLaws.{label_length, drill_known, in_known}
use Rattle.attester.specs.Label.{digest}
use Rattle.attester.specs.Attestation.{attestation}
use Rattle.attester.specs.Extract.{Extraction, extracted, refused, extract}
use Rattle.attester.proofs.LabelLaws.{digest_length}
use Rattle.tree.specs.Edition.{width, most}
use Rattle.tree.specs.Digest.{digest_answer, digest_octets, Digested}
use Rattle.attestation.specs.Attest.{issue_answer, attest_answer, attest_octets, Attested}
use Rattle.extractor.specs.Extract.{extraction_answer, Extracted}
use Rattle.contradiction.specs.Outcome.{Found}
use Rattle.contradiction.specs.Outcome as outcome
use Rattle.contradiction.specs.Trial.{number_key}
use Rattle.contradiction.specs.Drill.{handed, number, drill_answer, first_buffer, second_buffer, CarriedOut}
use Rattle.contradiction.proofs.NumberLaws.{key_length}
use Rattle.contradiction.proofs.OneNodeLaws.{one_attestation_length, one_admitted}

-- in the profile whose number is the drill's
module _ {profile : ℕ} (is : profile ≡ drill) (k : Octets) (one : length k ≡ 20) where
  digest_done : {out out' : Octets} {r : Answer} → length out ≡ 32 → Digested profile k out r out' → r ≡ Done 1
  unfolding digest_answer
  digest_done {out} h d = (rw is at d.answered) ∙ in_known Refused drill _ drill_known ∙ rw (eq-eqb (length out) 32 h, one_admitted k one)

  digest_made : {out out' : Octets} {r : Answer} → length out ≡ 32 → Digested profile k out r out' → out' ≡ digest (label drill) (k ∷ [])
  unfolding digest_octets
  digest_made {out} h d =
      let e = digest_done h d in
      let o : digest_octets (label drill) width most k ≡ digest (label drill) (k ∷ []) = rw (one_admitted k one) in
      let n = digest_length (label drill) (label_length drill) (k ∷ []) in
      (rw is at d.left) ∙ rw (e, o) (written_whole 1 (digest (label drill) (k ∷ [])) out (n ∙ sym h))

  module _ (x : Octets) (sized : length x ≡ 20) where
    attest_done : {out out' : Octets} {r : Answer} → length out ≡ 24 → Attested profile x k out r out' → r ≡ Done 24
    unfolding attest_answer issue_answer
    attest_done {out} h a =
        let n = one_attestation_length (label drill) k x one in
        (rw is at a.answered) ∙ in_known Refused drill _ drill_known ∙ rw (eq-eqb (length x) 20 sized, one_admitted k one, n, h)

    attestation_made : {out out' : Octets} {r : Answer} → length out ≡ 24 → Attested profile x k out r out' → out' ≡ attestation (label drill) (k ∷ []) x
    unfolding attest_octets
    attestation_made {out} h a =
        let e = attest_done h a in
        let n = one_attestation_length (label drill) k x one in
        let o : attest_octets (label drill) width most x k ≡ attestation (label drill) (k ∷ []) x = rw (one_admitted k one) in
        (rw is at a.left) ∙ rw (e, o) (written_whole 24 (attestation (label drill) (k ∷ []) x) out (n ∙ sym h))

-- what is asked of the extractor for the listed key k and the number n
abbrev pub Asked : Octets → ℕ → Octets → Octets → Answer → Octets → Octets → Type 0
Asked k n =
    Extracted drill (number_key n) (digest (label drill) (k ∷ []))
    (attestation (label drill) (k ∷ []) (number_key n)) (attestation (label drill) (number_key n ∷ []) (number_key n))

module _ {profile : ℕ} (is : profile ≡ drill) (k : Octets) (one : length k ≡ 20) (n : ℕ) {x : Octets} (ex : x ≡ number_key n) where
  x_sized : length x ≡ 20
  x_sized = ap length ex ∙ key_length n

  pub digest_refused : {out out' : Octets} {m p : ℕ} → length out ≡ 32 → Digested profile k out (Refused m p) out' → ⊥
  digest_refused h d = let e = digest_done is k one h d in let z : ◌≡◌ {A = ℕ} 0 1 = cc in omega arith

  pub absent_refused : {out out' : Octets} {m p : ℕ} → length out ≡ 24 → Attested profile x k out (Refused m p) out' → ⊥
  absent_refused h a = let e = attest_done is k one x x_sized h a in let z : ◌≡◌ {A = ℕ} 0 1 = cc in omega arith

  pub present_refused : {out out' : Octets} {m p : ℕ} → length out ≡ 24 → Attested profile x x out (Refused m p) out' → ⊥
  present_refused h a = let e = attest_done is x x_sized x x_sized h a in let z : ◌≡◌ {A = ℕ} 0 1 = cc in omega arith

  pub asked : {d d' a a' b b' out₁ out₂ out₁' out₂' : Octets} {t u v r : Answer} → length d ≡ 32 → Digested profile k d t d'
      → length a ≡ 24 → Attested profile x k a u a' → length b ≡ 24 → Attested profile x x b v b'
      → Extracted profile x d' a' b' out₁ out₂ r out₁' out₂' → Asked k n out₁ out₂ r out₁' out₂'
  asked hd ed ha ea hb eb e =
      rw (digest_made is k one hd ed, attestation_made is k one x x_sized ha ea, attestation_made is x x_sized x x_sized hb eb, ex, is) at e

-- The extractor's answer

found : (n : ℕ) (e : Extraction) {p : ℕ} → Done p ≡ extraction_answer e → Found n ≡ drill_answer (number n e)
unfolding extraction_answer drill_answer
found n (extracted f) q = refl
found n (refused m p) q = let z : ◌≡◌ {A = ℕ} 0 1 = cc in absurd (omega arith)

not_found : (n : ℕ) (e : Extraction) {m p : ℕ} → Refused m p ≡ extraction_answer e → outcome.Refused m p ≡ drill_answer (number n e)
unfolding extraction_answer drill_answer
not_found n (extracted f) q = let z : ◌≡◌ {A = ℕ} 0 1 = cc in absurd (omega arith)
not_found n (refused m p) q = cc

module _ (k : Octets) (n : ℕ) {out₁ out₂ out₁' out₂' : Octets} {r : Answer} (h₁ : length out₁ ≡ 85) (h₂ : length out₂ ≡ 85)
    (e : Asked k n out₁ out₂ r out₁' out₂') where
  extracts : extract (label drill) width (number_key n) (digest (label drill) (k ∷ []))
      (attestation (label drill) (k ∷ []) (number_key n)) (attestation (label drill) (number_key n ∷ []) (number_key n)) (length out₁) (length out₂)
      ≡ handed k (number_key n)
  unfolding handed
  extracts = rw (h₁, h₂)

  answers : r ≡ extraction_answer (handed k (number_key n))
  answers = e.answered ∙ in_known Refused drill _ drill_known ∙ ap extraction_answer extracts

  leaves_first : out₁' ≡ first_buffer (number n (handed k (number_key n))) out₁
  unfolding first_buffer
  leaves_first = e.first_left ∙ rw (extracts, answers)

  leaves_second : out₂' ≡ second_buffer (number n (handed k (number_key n))) out₂
  unfolding second_buffer
  leaves_second = e.second_left ∙ rw (extracts, answers)

  pub handed_found : {p : ℕ} → r ≡ Done p → CarriedOut (number n (handed k (number_key n))) out₁ out₂ (Found n) out₁' out₂'
  handed_found c =
      record { answered = found n (handed k (number_key n)) (sym c ∙ answers); first_left = leaves_first; second_left = leaves_second }

  pub handed_refused : {m p : ℕ} → r ≡ Refused m p → CarriedOut (number n (handed k (number_key n))) out₁ out₂ (outcome.Refused m p) out₁' out₂'
  handed_refused c =
      record { answered = not_found n (handed k (number_key n)) (sym c ∙ answers); first_left = leaves_first; second_left = leaves_second }
