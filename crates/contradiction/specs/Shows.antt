-- What the committee is shown, as theorems about the definitions: the search finds the first such number of those that the bound allows;
-- no code's key is among them; a number that is found is always shown, and what is shown is a contradiction; and each answer tells what
-- it was given for. Proved in `proofs/Shows.antt`.
use Rattle.std.specs.Prelude.{◌≡◌, true, false, List, [], ◌∷◌, ◌⊎◌, ℕ, ◌*◌, ◌<◌, ◌^◌, length, take}
use Rattle.std.proofs.Math.Option.{none, some}
use Rattle.answer.specs.Refusals.{size, more_codes}
use Rattle.octets.specs.Order.{Octets}
use Rattle.sha256.specs.Fips180.{sha256}
use Rattle.profile.specs.Profile.{drill, label}
use Rattle.attester.specs.Record.{node_record}
use Rattle.attester.specs.Label.{digest}
use Rattle.attester.specs.Verdict.{present, absent}
use Rattle.attester.specs.Verify.{verify}
use Rattle.attester.specs.Attestation.{attestation}
use Rattle.codes.specs.Text.{accepted, reading}
use Rattle.codes.specs.Text as text
use Rattle.tree.specs.Edition.{width, most}
use Rattle.contradiction.specs.Outcome.{Outcome, Found, None, Refused}
use Rattle.contradiction.specs.Trial.{number_key, alike, first_alike}
use Rattle.contradiction.specs.Drill.{Drilled}

-- the number i need not be tried, or was and is not alike
abbrev pub Passed : Octets → ℕ → Type 0
Passed k i = (number_key i ≡ k) ⊎ (alike k i ≡ false)

-- a number below n is the listed key
pub record Skipped (k : Octets) (n : ℕ) : Type 0 where
  pub which : ℕ
  pub below : which < n
  pub is_listed : number_key which ≡ k

-- 02 (vi), "at most 1,048,576 of them": the numbers below `bound`, and `bound` itself where one of those was skipped
abbrev pub Within : Octets → ℕ → ℕ → Type 0
Within k bound n = (n < bound) ⊎ ((n ≡ bound) × Skipped k bound)

-- A number that is found is not the listed key, is alike, no smaller one would do, and for a bound of 32 bits it is among those that
-- the bound allows; where none is found, none of those would do.
pub record FirstIsFirst (k : Octets) (bound : ℕ) : Type 0 where
  pub found_unlisted : (n : ℕ) → first_alike k bound 0 ≡ some n → number_key n ≡ k → ⊥
  pub found_alike : (n : ℕ) → first_alike k bound 0 ≡ some n → alike k n ≡ true
  pub found_first : (n : ℕ) → first_alike k bound 0 ≡ some n → (i : ℕ) → i < n → Passed k i
  pub found_within : bound < 2 ^ 32 → (n : ℕ) → first_alike k bound 0 ≡ some n → Within k bound n
  pub none_passed : first_alike k bound 0 ≡ none → (i : ℕ) → i < bound → Passed k i
  pub none_passed_skipped : first_alike k bound 0 ≡ none → Skipped k bound → Passed k bound

-- The key of a text's one code is no number of 32 bits: a code begins with a character, such a number's key with 0.
abbrev pub NoCodeIsANumber : Type 0
NoCodeIsANumber =
    (s k : Octets) → reading (most * width) s ≡ accepted (k ∷ []) → (n : ℕ) → n < 2 ^ 32 → number_key n ≡ k → ⊥

-- what is shown of the listed key k and the number n: the two node records, which differ; the first 2 octets of their SHA-256, which
-- do not; and the verdicts on the two attestations, under the digest of the list of k alone
pub record Shown (k : Octets) (n : ℕ) (first second : Octets) : Type 0 where
  pub first_is : first ≡ node_record none k none
  pub second_is : second ≡ node_record none (number_key n) none
  pub differ : first ≡ second → ⊥
  pub two_agree : take 2 (sha256 first) ≡ take 2 (sha256 second)
  pub judged_absent : verify (label drill) width (number_key n) (digest (label drill) (k ∷ [])) (attestation (label drill) (k ∷ []) (number_key n)) ≡ absent
  pub judged_present : verify (label drill) width (number_key n) (digest (label drill) (k ∷ [])) (attestation (label drill) (number_key n ∷ []) (number_key n)) ≡ present

-- For a text that is read as the one key k, and two buffers of 85 octets, a number that the search finds is answered and shown, and is
-- below the bound.
abbrev pub FoundIsShown : Type 0
FoundIsShown =
    (s k : Octets) → reading (most * width) s ≡ accepted (k ∷ [])
    → (bound n : ℕ) → bound < 2 ^ 32 → first_alike k bound 0 ≡ some n
    → (out₁ out₂ : Octets) → length out₁ ≡ 85 → length out₂ ≡ 85
    → (r : Outcome) (out₁' out₂' : Octets) → Drilled s bound out₁ out₂ r out₁' out₂' → (r ≡ Found n) × (n < bound) × Shown k n out₁' out₂'

-- what the answer n tells of a text: it has one key, and n is the number that the search finds for it and is shown
pub record FoundBy (s : Octets) (bound n : ℕ) (out₁' out₂' : Octets) : Type 0 where
  pub listed : Octets
  pub was_read : reading (most * width) s ≡ accepted (listed ∷ [])
  pub is_first : first_alike listed bound 0 ≡ some n
  pub within : n < bound
  pub shown : Shown listed n out₁' out₂'

-- what the answer `None` tells of a text: it has one key, and the search finds nothing for it; both buffers stay
pub record FoundNone (s : Octets) (bound : ℕ) (out₁ out₂ out₁' out₂' : Octets) : Type 0 where
  pub listed : Octets
  pub was_read : reading (most * width) s ≡ accepted (listed ∷ [])
  pub is_none : first_alike listed bound 0 ≡ none
  pub first_stays : out₁' ≡ out₁
  pub second_stays : out₂' ≡ out₂

-- what a refusal m at p tells of a text and two buffers; so the extractor itself never refuses
pub data RefusedFor (s out₁ out₂ : Octets) (m p : ℕ) : Type 0 where
  -- 01, number 1, "an argument has a size it may not have": a buffer is not of 85 octets
  wrong_size : (length out₁ ≡ 85 → ⊥) ⊎ (length out₂ ≡ 85 → ⊥) → m ≡ size → p ≡ 0 → RefusedFor s out₁ out₂ m p
  -- reading refuses the text
  wrong_text : reading (most * width) s ≡ text.refused m p → RefusedFor s out₁ out₂ m p
  -- 02 (vi), "16 at 2, last, more than one code for the drill"
  more_than_one : (ks : List Octets) → reading (most * width) s ≡ accepted ks → 1 < length ks → m ≡ more_codes → p ≡ 2 → RefusedFor s out₁ out₂ m p

-- Each answer tells what it was given for, whatever the text and the buffers.
pub record AnswersTell (s : Octets) (bound : ℕ) (out₁ out₂ out₁' out₂' : Octets) : Type 0 where
  pub found_tells : bound < 2 ^ 32 → (n : ℕ) → Drilled s bound out₁ out₂ (Found n) out₁' out₂' → FoundBy s bound n out₁' out₂'
  pub none_tells : Drilled s bound out₁ out₂ None out₁' out₂' → FoundNone s bound out₁ out₂ out₁' out₂'
  pub refused_tells : (m p : ℕ) → Drilled s bound out₁ out₂ (Refused m p) out₁' out₂' → RefusedFor s out₁ out₂ m p

pub record Shows : Type 0 where
  pub first_is_first : (k : Octets) (bound : ℕ) → FirstIsFirst k bound
  pub no_code_is_a_number : NoCodeIsANumber
  pub found_is_shown : FoundIsShown
  pub answers_tell : (s : Octets) (bound : ℕ) (out₁ out₂ out₁' out₂' : Octets) → AnswersTell s bound out₁ out₂ out₁' out₂'
