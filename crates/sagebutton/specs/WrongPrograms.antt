-- 01, "Promises that bind": "Try these on the promises and see them rejected". Of each wrong program it is said what it always does,
-- and `WrongProgramsRejected` that none which does so keeps the promise. Proved in `proofs/WrongPrograms.antt`.
use Rattle.std.specs.Prelude.{◌≡◌, true, cond, ◌⊎◌, ℕ, ◌≤◌, length}
use mathlib.Core.List.{List, flatten}
use Rattle.answer.specs.Answer.{Answer, Done, Refused}
use Rattle.answer.specs.Verdict as verdict
use Rattle.answer.specs.Refusals.{too_short}
use Rattle.octets.specs.Order.{Octets, AreOctets}
use Rattle.sha256.specs.Hash.{Hashed}
use Rattle.profile.specs.Profile.{drill, known, label}
use Rattle.attester.specs.Record.{Labels}
use Rattle.attester.specs.Label.{digest}
use Rattle.attester.specs.Listing.{Listing}
use Rattle.attester.specs.Path.{Path, foot, foot_entry, foot_left, foot_right}
use Rattle.attester.specs.Verdict.{Judgement, present, absent, judge}
use Rattle.attester.specs.Form.{form}
use Rattle.attester.specs.Verify.{judged, verify}
use Rattle.attester.specs.Search.{listed}
use Rattle.attester.specs.Attestation.{attestation}
use Rattle.attester.specs.Extract.{refused, extract}
use Rattle.codes.specs.Text.{accepted, reading}
use Rattle.codes.specs.Read.{Read}
use Rattle.tree.specs.Edition.{width, most}
use Rattle.attestation.specs.Attest.{Attested}
use Rattle.attestation.specs.Verify.{Verified, verdict_of}
use Rattle.extractor.specs.Extract.{Extracted}
use Rattle.sagebutton.specs.Demand3.{Contradict}

-- "a constant hash": the same octets h are left of every message that is accepted, whatever is answered
abbrev pub ConstantHash : Octets → Type 0
ConstantHash h = (msg out : Octets) → length msg ≤ 65535 → length out ≡ 32 → (r : Answer) × Hashed msg out r h

-- in a profile, d is an accepted list's digest, and a the attestation that is issued for the key x under that list
pub record Issued (profile : ℕ) (list : List Octets) (x d a : Octets) : Type 0 where
  pub listing : Listing width most list
  pub key_size : length x ≡ 20
  pub digest_is : d ≡ digest (label profile) list
  pub is : a ≡ attestation (label profile) list x

-- "a verifier that refuses all"
abbrev pub RefusesAll : ℕ → Type 0
RefusesAll profile = (list : List Octets) (x d a : Octets) → Issued profile list x d a → (m : ℕ) × (p : ℕ) × Verified profile x d a (verdict.Refused m p)

-- "or says Absent to all"
abbrev pub AbsentToAll : ℕ → Type 0
AbsentToAll profile = (list : List Octets) (x d a : Octets) → Issued profile list x d a → Verified profile x d a verdict.Absent

-- "an issuer that always answers 6", even where there is room for all that we issue
abbrev pub Always6 : ℕ → Type 0
Always6 profile = (list : List Octets) (x out : Octets) → Listing width most list → length x ≡ 20 → 586 ≤ length out
    → (out' : Octets) × Attested profile x (flatten list) out (Refused too_short 0) out'

-- "a list reader that states a count and writes no keys"
abbrev pub WritesNoKeys : Type 0
WritesNoKeys = (text out : Octets) (ks : List Octets) → reading (length out) text ≡ accepted ks → (n : ℕ) × Read text out (Done n) out

-- "or another count"
abbrev pub AnotherCount : Type 0
AnotherCount = (text out : Octets) (ks : List Octets) → reading (length out) text ≡ accepted ks
    → (n : ℕ) × (out' : Octets) × (n ≡ length ks → ⊥) × Read text out (Done n) out'

-- two different node records, of 85 octets each, with one label
pub record Collision (H : Octets → Octets) : Type 0 where
  pub first : Octets
  pub second : Octets
  pub first_size : length first ≡ 85
  pub second_size : length second ≡ 85
  pub first_octets : AreOctets first
  pub second_octets : AreOctets second
  pub differ : first ≡ second → ⊥
  pub same_label : H first ≡ H second

-- the foot of a path, as if nothing were above it
abbrev pub foot_of : Path → Path
foot_of p = foot (foot_entry p) (foot_left p) (foot_right p)

-- "a verifier that hashes the foot and ignores the levels above", by the label function H
unfoldable pub foot_only : (Octets → Octets) → Octets → Octets → Octets → Judgement
foot_only H x d a = judged (λ p. judge H x d (foot_of p)) (form width a)

-- that it gives "demand 2's verdict" on what is issued
abbrev pub FootSuffices : (Octets → Octets) → Type 0
FootSuffices H = (list : List Octets) (x : Octets) → Listing width most list → length x ≡ 20
    → foot_only H x (digest H list) (attestation H list x) ≡ cond (listed x list) present absent

-- that it keeps the promise there
abbrev pub FootVerifies : ℕ → Type 0
FootVerifies profile = (list : List Octets) (x d a : Octets) → Issued profile list x d a → Verified profile x d a (verdict_of (foot_only (label profile) x d a))

-- two attestations that contradict each other, by the label function H: Present and Absent, or Absent and Present
abbrev pub Contradictory : (Octets → Octets) → Octets → Octets → Octets → Octets → Type 0
Contradictory H x d a b =
    ((verify H width x d a ≡ present) × (verify H width x d b ≡ absent)) ⊎ ((verify H width x d a ≡ absent) × (verify H width x d b ≡ present))

-- "an extractor that does nothing": it refuses these two attestations, by the label function H
abbrev pub ExtractsNothing : (Octets → Octets) → Octets → Octets → Octets → Octets → Type 0
ExtractsNothing H x d a b = (m : ℕ) × (p : ℕ) × (extract H width x d a b 85 85 ≡ refused m p)

-- the same of the promise: it refuses,
abbrev pub RefusesTwo : ℕ → Octets → Octets → Octets → Octets → Type 0
RefusesTwo profile x d a b = (out₁ out₂ : Octets) → length out₁ ≡ 85 → length out₂ ≡ 85
    → (m : ℕ) × (p : ℕ) × (out₁' : Octets) × (out₂' : Octets) × Extracted profile x d a b out₁ out₂ (Refused m p) out₁' out₂'

-- or, whatever it answers, it leaves its buffers as they were
abbrev pub LeavesBuffers : ℕ → Octets → Octets → Octets → Octets → Type 0
LeavesBuffers profile x d a b = (out₁ out₂ : Octets) → length out₁ ≡ 85 → length out₂ ≡ 85 → (r : Answer) × Extracted profile x d a b out₁ out₂ r out₁ out₂

-- "or shows one stored pair to everyone": r and s, in either order
abbrev pub ShowsOnePair : ℕ → Octets → Octets → Type 0
ShowsOnePair profile r s = (x d a b : Octets) → Contradict profile x d a b
    → (out₁ out₂ : Octets) → length out₁ ≡ 85 → length out₂ ≡ 85
    → (t : Answer) × (Extracted profile x d a b out₁ out₂ t r s ⊎ Extracted profile x d a b out₁ out₂ t s r)

-- In a profile that is not known every call is refused with 17, and a verifier that refuses all is right; so these ask for a known one.
-- The verifier that looks at the foot alone is rejected in each, and over any label function it would give a collision. An extractor
-- that does nothing with any two attestations that contradict each other is rejected, over any label function and in each profile. That
-- there are such attestations is known of the drill (`Demand3`), so there one that never does anything is rejected without more ado, and
-- one that shows a stored pair is rejected too.
pub record WrongProgramsRejected : Type 0 where
  pub constant_hash : (h : Octets) → ConstantHash h → ⊥
  pub refuses_all : (profile : ℕ) → known profile ≡ true → RefusesAll profile → ⊥
  pub absent_to_all : (profile : ℕ) → known profile ≡ true → AbsentToAll profile → ⊥
  pub always_6 : (profile : ℕ) → known profile ≡ true → Always6 profile → ⊥
  pub writes_no_keys : WritesNoKeys → ⊥
  pub another_count : AnotherCount → ⊥
  pub foot_verifies : (profile : ℕ) → known profile ≡ true → FootVerifies profile → ⊥
  pub foot_suffices_collides : (H : Octets → Octets) → Labels H → ((r : Octets) → AreOctets (H r)) → FootSuffices H → Collision H
  pub extracts_nothing : (H : Octets → Octets) → Labels H → (x d a b : Octets) → Contradictory H x d a b → ExtractsNothing H x d a b → ⊥
  pub refuses_two : (profile : ℕ) (x d a b : Octets) → Contradict profile x d a b → RefusesTwo profile x d a b → ⊥
  pub leaves_buffers : (profile : ℕ) (x d a b : Octets) → Contradict profile x d a b → LeavesBuffers profile x d a b → ⊥
  pub does_nothing : ((x d a b : Octets) → Contradict drill x d a b → RefusesTwo drill x d a b ⊎ LeavesBuffers drill x d a b) → ⊥
  pub shows_one_pair : (r s : Octets) → ShowsOnePair drill r s → ⊥
