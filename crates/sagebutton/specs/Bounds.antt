-- How large the answers are, of the promises alone: what an accepted call answers, and a refusal's number and place. Proved in
-- `proofs/Bounds.antt`.
use Rattle.std.specs.Prelude.{◌≡◌, true, ℕ, ◌^◌, ◌≤◌, ◌<◌, length}
use Rattle.answer.specs.Answer.{Answer, Done, Refused}
use Rattle.answer.specs.Verdict as verdict
use Rattle.answer.specs.Refusals.{form, IsRefusal}
use Rattle.octets.specs.Order.{Octets, AreOctets}
use Rattle.sha256.specs.Hash.{Hashed}
use Rattle.codes.specs.Read.{Read}
use Rattle.profile.specs.Profile.{known}
use Rattle.tree.specs.Digest.{Digested}
use Rattle.attestation.specs.Attest.{Attested}
use Rattle.attestation.specs.Verify.{Verified}
use Rattle.extractor.specs.Extract.{Extracted}
use Rattle.contradiction.specs.Outcome as outcome
use Rattle.contradiction.specs.Drill.{Drilled}

-- every refusal that a promise permits has a number of 1 to 17, and a place of at most `place`
pub record RefusalsWithin {A : Type 0} (place : ℕ) (Refused : ℕ → ℕ → A) (Meets : A → Type 0) : Type 0 where
  pub numbered : (m p : ℕ) → Meets (Refused m p) → IsRefusal m
  pub placed : (m p : ℕ) → Meets (Refused m p) → p ≤ place

-- and an accepted call answers at most `value`
pub record AnswersWithin (value place : ℕ) (Meets : Answer → Type 0) : Type 0 where
  pub done : (n : ℕ) → Meets (Done n) → n ≤ value
  pub refusals : RefusalsWithin place Refused Meets

-- each function's answers, and the places of its refusals; of attest's 586 `Demand2` says that it is reached
pub record Bounds : Type 0 where
  -- the octets of a message
  pub hash : (msg out out' : Octets) → AnswersWithin 65535 0 (λ r. Hashed msg out r out')
  -- the codes of a list; the line after the two head lines and 3,000 codes
  pub read_list : (text out out' : Octets) → AnswersWithin 3000 3003 (λ r. Read text out r out')
  -- the keys of a list; the index of the last of 3,000
  pub digest : (profile : ℕ) (keys out out' : Octets) → AnswersWithin 3000 2999 (λ r. Digested profile keys out r out')
  -- 01: "the longest we issue is 586"; the same index
  pub attest : (profile : ℕ) (x keys out out' : Octets) → AnswersWithin 586 2999 (λ r. Attested profile x keys out r out')
  -- 01: "The longest the verifier takes is 1,731 octets"; the offset of the octet after so many
  pub verify : (profile : ℕ) (x d a : Octets) → RefusalsWithin 1731 verdict.Refused (Verified profile x d a)
  -- and some octets are refused there, for each key and each digest
  pub verify_furthest : (profile : ℕ) (x d : Octets) → known profile ≡ true → length x ≡ 20 → length d ≡ 32
      → (a : Octets) × AreOctets a × Verified profile x d a (verdict.Refused form 1731)
  -- the levels passed, of 32; which of two attestations
  pub extract : (profile : ℕ) (x d a b out₁ out₂ out₁' out₂' : Octets) → AnswersWithin 31 2 (λ r. Extracted profile x d a b out₁ out₂ r out₁' out₂')
  -- 02 (vi): "at most 1,048,576 of them", and here any bound of 32 bits: a number below it
  pub drill_found : (text : Octets) (bound : ℕ) (out₁ out₂ out₁' out₂' : Octets) → bound < 2 ^ 32
      → (n : ℕ) → Drilled text bound out₁ out₂ (outcome.Found n) out₁' out₂' → n < bound
  -- the line of a list's text
  pub drill : (text : Octets) (bound : ℕ) (out₁ out₂ out₁' out₂' : Octets)
      → RefusalsWithin 3003 outcome.Refused (λ r. Drilled text bound out₁ out₂ r out₁' out₂')
