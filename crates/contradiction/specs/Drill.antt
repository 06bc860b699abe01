-- The promise of `drill` (02, vi): "A drill program takes a one-code list", finds a number by `Trial`, and "hands the extractor that
-- key's Absent under the first tree and its Present under the second".
use Rattle.std.specs.Prelude.{◌≡◌, cond, ◌&&◌, [], ◌∷◌, ℕ, ◌+◌, ◌*◌, ◌^◌, eqb, ltb, length, get_or}
use Rattle.std.proofs.Math.Option.{Option, none, some}
use Rattle.answer.specs.Answer.{written}
use Rattle.answer.specs.Refusals.{size, more_codes}
use Rattle.octets.specs.Order.{Octets}
use Rattle.profile.specs.Profile.{drill, label}
use Rattle.attester.specs.Record.{record_size}
use Rattle.attester.specs.Label.{digest}
use Rattle.attester.specs.Attestation.{attestation}
use Rattle.attester.specs.Extract.{Extraction, extracted, extract}
use Rattle.attester.specs.Extract as extractor
use Rattle.codes.specs.Text.{Reading, accepted, reading}
use Rattle.codes.specs.Text as text
use Rattle.tree.specs.Edition.{width, most}
use Rattle.extractor.specs.Extract.{extraction_answer, first_record, second_record}
use Rattle.contradiction.specs.Outcome.{Outcome, Found, None, Refused}
use Rattle.contradiction.specs.Trial.{number_key, first_alike}

-- "It hands the extractor that key's Absent under the first tree and its Present under the second": of the key x, with the listed
-- key k, under the digest that their trees share, into two buffers of a record's 85 octets
unfoldable pub handed : Octets → Octets → Extraction
handed k x =
    extract (label drill) width x (digest (label drill) (k ∷ []))
    (attestation (label drill) (k ∷ []) x) (attestation (label drill) (x ∷ []) x) (record_size width) (record_size width)

-- what the drill comes to: a number, and what the extractor makes of it; no number; or a refusal
pub data Drilling : Type 0 where
  number : ℕ → Extraction → Drilling
  no_number : Drilling
  refused : ℕ → ℕ → Drilling

-- with the listed key k: what the number that was found comes to
unfoldable pub tried : Octets → Option ℕ → Drilling
tried k none = no_number
tried k (some n) = number n (handed k (number_key n))

-- "16 at 2, last, more than one code for the drill"; an accepted text has at least one
unfoldable pub drilled : ℕ → Reading → Drilling
drilled bound (text.refused m p) = refused m p
drilled bound (accepted ks) = cond (ltb 1 (length ks)) (refused more_codes 2) (tried (get_or ks 0 []) (first_alike (get_or ks 0 []) bound 0))

-- the drill with a list's text, at most `bound` numbers tried, and two buffers of n and m octets, which are sized as the extractor's
unfoldable pub drilling : Octets → ℕ → ℕ → ℕ → Drilling
drilling s bound n m = cond (eqb n (record_size width) && eqb m (record_size width)) (drilled bound (reading (most * width) s)) (refused size 0)

-- the number that was found, or that there is none; or a refusal
unfoldable pub drill_answer : Drilling → Outcome
drill_answer (number n (extracted f)) = Found n
drill_answer (number n (extractor.refused m p)) = Refused m p
drill_answer no_number = None
drill_answer (refused m p) = Refused m p

-- "the two node records in that order": what the extractor leaves in the first buffer and in the second; else they stay
unfoldable pub first_buffer : Drilling → Octets → Octets
first_buffer (number n e) out = written (extraction_answer e) (first_record e) out
first_buffer no_number out = out
first_buffer (refused m p) out = out

unfoldable pub second_buffer : Drilling → Octets → Octets
second_buffer (number n e) out = written (extraction_answer e) (second_record e) out
second_buffer no_number out = out
second_buffer (refused m p) out = out

-- what a function that comes to the drilling d, with the buffers out₁ and out₂, answers, r, and what it leaves there, out₁' and out₂'
pub record CarriedOut (d : Drilling) (out₁ out₂ : Octets) (r : Outcome) (out₁' out₂' : Octets) : Type 0 where
  pub answered : r ≡ drill_answer d
  pub first_left : out₁' ≡ first_buffer d out₁
  pub second_left : out₂' ≡ second_buffer d out₂

-- the promise of `drill` of a list's text, with at most `bound` numbers tried
abbrev pub Drilled : Octets → ℕ → Octets → Octets → Outcome → Octets → Octets → Type 0
Drilled s bound out₁ out₂ r out₁' out₂' = CarriedOut (drilling s bound (length out₁) (length out₂)) out₁ out₂ r out₁' out₂'

-- the refusal's number; 0 where there is none
abbrev pub drill_number : Outcome → ℕ
drill_number (Found n) = 0
drill_number None = 0
drill_number (Refused m p) = m

-- 1 where nothing was found
abbrev pub drill_none : Outcome → ℕ
drill_none (Found n) = 0
drill_none None = 1
drill_none (Refused m p) = 0

-- the number found, or the refusal's place
abbrev pub drill_value : Outcome → ℕ
drill_value (Found n) = n
drill_value None = 0
drill_value (Refused m p) = p

-- the C face's one number: bits 0 to 31 the number found or the place, bit 32 that there is none, bits 48 to 63 the refusal
abbrev pub drill_packed : Outcome → ℕ
drill_packed o = drill_number o * 2 ^ 48 + drill_none o * 2 ^ 32 + drill_value o
