-- The promise of `extract` (01, "Extractor"; 02, vi).
use Rattle.std.specs.Prelude.{◌≡◌, [], ℕ, length}
use Rattle.answer.specs.Answer.{Answer, Done, Refused, written}
use Rattle.octets.specs.Order.{Octets}
use Rattle.profile.specs.Profile.{label, in_profile}
use Rattle.attester.specs.Extract.{Extraction, extracted, refused, extract}
use Rattle.tree.specs.Edition.{width}

-- 01: "It answers the number of levels passed before that one", or the refusal
unfoldable pub extraction_answer : Extraction → Answer
extraction_answer (extracted f) = Done f.passed
extraction_answer (refused m p) = Refused m p

-- 01: "The first attestation's record goes to the first buffer"
unfoldable pub first_record : Extraction → Octets
first_record (extracted f) = f.first
first_record (refused m p) = []

-- 01: "the second's to the second"
unfoldable pub second_record : Extraction → Octets
second_record (extracted f) = f.second
second_record (refused m p) = []

-- what `extract` in a profile of the key x, the digest d and the attestations a and b into out₁ and out₂ answers, r, and what it
-- leaves there, out₁' and out₂'
pub record Extracted (profile : ℕ) (x d a b out₁ out₂ : Octets) (r : Answer) (out₁' out₂' : Octets) : Type 0 where
  pub answered : r ≡ in_profile Refused profile (extraction_answer (extract (label profile) width x d a b (length out₁) (length out₂)))
  pub first_left : out₁' ≡ written r (first_record (extract (label profile) width x d a b (length out₁) (length out₂))) out₁
  pub second_left : out₂' ≡ written r (second_record (extract (label profile) width x d a b (length out₁) (length out₂))) out₂
