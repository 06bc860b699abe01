-- 01, "Promises that bind": "every input has one permitted answer and one permitted final content of each lent buffer". Proved in
-- `proofs/OneOutcome.antt`.
use Rattle.std.specs.Prelude.{◌≡◌, ℕ}
use Rattle.answer.specs.Verdict.{Verdict}
use Rattle.answer.specs.Answer.{packed, verdict_packed}
use Rattle.octets.specs.Order.{Octets}
use Rattle.sha256.specs.Hash.{Hashed}
use Rattle.codes.specs.Read.{Read}
use Rattle.tree.specs.Digest.{Digested}
use Rattle.attestation.specs.Attest.{Attested}
use Rattle.attestation.specs.Verify.{Verified}
use Rattle.extractor.specs.Extract.{Extracted}
use Rattle.contradiction.specs.Drill.{Drilled, drill_packed}
use Rattle.sagebutton.specs.Packed.{Packed}

-- A promise about an answer and the content of what was lent: some outcome meets it, and any two that do coincide.
pub record OneOutcome {A B : Type 0} (Meets : A → B → Type 0) : Type 0 where
  pub answer : A
  pub buffer : B
  pub permitted : Meets answer buffer
  pub only : (a : A) (b : B) → Meets a b → (a ≡ answer) × (b ≡ buffer)

-- the number that an export answers, in place of the answer
abbrev pub Numbered : {A B : Type 0} → (A → ℕ) → (A → B → Type 0) → ℕ → B → Type 0
Numbered pack Meets r b = Packed pack (λ a. Meets a b) r

-- `verify` is lent no buffer
abbrev pub LendsNothing : (Verdict → Type 0) → Verdict → Unit {0} → Type 0
LendsNothing Meets v nothing = Meets v

-- `extract` and `drill` are lent two
abbrev pub LendsTwo : {A : Type 0} → (A → Octets → Octets → Type 0) → A → Octets × Octets → Type 0
LendsTwo Meets r buffers = Meets r buffers.0 buffers.1

-- each public function, and each export
pub record EveryInputHasOneOutcome : Type 0 where
  pub hash : (msg out : Octets) → OneOutcome (Hashed msg out)
  pub read_list : (text out : Octets) → OneOutcome (Read text out)
  pub digest : (profile : ℕ) (keys out : Octets) → OneOutcome (Digested profile keys out)
  pub attest : (profile : ℕ) (x keys out : Octets) → OneOutcome (Attested profile x keys out)
  pub verify : (profile : ℕ) (x d a : Octets) → OneOutcome (LendsNothing (Verified profile x d a))
  pub extract : (profile : ℕ) (x d a b out₁ out₂ : Octets) → OneOutcome (LendsTwo (Extracted profile x d a b out₁ out₂))
  pub drill : (text : Octets) (bound : ℕ) (out₁ out₂ : Octets) → OneOutcome (LendsTwo (Drilled text bound out₁ out₂))
  pub exported_hash : (msg out : Octets) → OneOutcome (Numbered packed (Hashed msg out))
  pub exported_read_list : (text out : Octets) → OneOutcome (Numbered packed (Read text out))
  pub exported_digest : (profile : ℕ) (keys out : Octets) → OneOutcome (Numbered packed (Digested profile keys out))
  pub exported_attest : (profile : ℕ) (x keys out : Octets) → OneOutcome (Numbered packed (Attested profile x keys out))
  pub exported_verify : (profile : ℕ) (x d a : Octets) → OneOutcome (Numbered verdict_packed (LendsNothing (Verified profile x d a)))
  pub exported_extract : (profile : ℕ) (x d a b out₁ out₂ : Octets) → OneOutcome (Numbered packed (LendsTwo (Extracted profile x d a b out₁ out₂)))
  pub exported_drill : (text : Octets) (bound : ℕ) (out₁ out₂ : Octets) → OneOutcome (Numbered drill_packed (LendsTwo (Drilled text bound out₁ out₂)))
