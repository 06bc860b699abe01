-- Demand 1 (`docs/PROMISES.md`): a refusal leaves the lent buffers as they were, and no line of a list is skipped. Proved in
-- `proofs/Demand1.antt`; that every input has an answer, and one only, is `OneOutcome`.
use Rattle.std.specs.Prelude.{◌≡◌, map, ℕ}
use Rattle.answer.specs.Answer.{Answer, Done, Refused}
use Rattle.octets.specs.Order.{Octets}
use Rattle.sha256.specs.Hash.{Hashed}
use Rattle.attester.specs.Entry.{entries}
use Rattle.codes.specs.Read.{Read}
use Rattle.codes.specs.Writing.{text_of, code_of, NothingSkipped, EveryListingAccepted}
use Rattle.tree.specs.Digest.{Digested}
use Rattle.tree.specs.Edition.{width}
use Rattle.attestation.specs.Attest.{Attested}
use Rattle.extractor.specs.Extract.{Extracted}
use Rattle.contradiction.specs.Outcome as outcome
use Rattle.contradiction.specs.Drill.{Drilled}

-- a refused call leaves its buffer as it was
abbrev pub Untouched : (Octets → Answer → Octets → Type 0) → Type 0
Untouched Meets = (out : Octets) (m p : ℕ) (out' : Octets) → Meets out (Refused m p) out' → out' ≡ out

-- The text of an accepted call is, octet for octet, the two head lines and then, for each key that now stands in the buffer, in
-- order, that key's code and LF, and nothing else.
abbrev pub WrittenIsTheList : Type 0
WrittenIsTheList = (text out : Octets) (n : ℕ) (out' : Octets) → Read text out (Done n) out' → text ≡ text_of (map code_of (entries width n out'))

-- `NothingSkipped` says the same of the reading by itself, and that its keys are those of ascending codes;
-- `EveryListingAccepted` says that every list of 1 to 3,000 ascending codes, so written, is accepted with exactly its keys.
pub record Demand1 : Type 0 where
  pub hash_untouched : (msg : Octets) → Untouched (Hashed msg)
  pub read_list_untouched : (text : Octets) → Untouched (Read text)
  pub digest_untouched : (profile : ℕ) (keys : Octets) → Untouched (Digested profile keys)
  pub attest_untouched : (profile : ℕ) (x keys : Octets) → Untouched (Attested profile x keys)
  pub extract_untouched : (profile : ℕ) (x d a b out₁ out₂ : Octets) (m p : ℕ) (out₁' out₂' : Octets) → Extracted profile x d a b out₁ out₂ (Refused m p) out₁' out₂'
      → (out₁' ≡ out₁) × (out₂' ≡ out₂)
  pub drill_untouched : (text : Octets) (bound : ℕ) (out₁ out₂ : Octets) (m p : ℕ) (out₁' out₂' : Octets)
      → Drilled text bound out₁ out₂ (outcome.Refused m p) out₁' out₂' → (out₁' ≡ out₁) × (out₂' ≡ out₂)
  pub written_is_the_list : WrittenIsTheList
  pub nothing_skipped : NothingSkipped
  pub every_listing_accepted : EveryListingAccepted
