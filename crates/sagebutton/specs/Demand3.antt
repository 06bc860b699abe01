-- Demand 3 (`docs/PROMISES.md`): of any key, any digest, even of no list, and any two attestations, whoever made them, one judged
-- Present and the other Absent, the extractor makes two different node records, one rebuilt from each, with the same hash. It is stated
-- of what the functions promise, so of what a caller holds in its buffers, and proved in `proofs/Demand3.antt`. 02 (vi): the hash is
-- the profile's label, "under one profile number throughout: digest, issue, both verdicts and extractor alike"; `attester` has the same
-- over any function from records to labels.
use Rattle.std.specs.Prelude.{◌≡◌, [], ◌∷◌, ◌⊎◌, ℕ, length}
use Rattle.answer.specs.Answer.{Answer, Done}
use Rattle.answer.specs.Verdict.{Present, Absent}
use Rattle.octets.specs.Order.{Octets}
use Rattle.sha256.specs.Hash.{Hashed}
use Rattle.profile.specs.Profile.{drill, kept, label}
use Rattle.attester.specs.Label.{digest}
use Rattle.attester.specs.Form.{shown}
use Rattle.attester.specs.Attestation.{attestation}
use Rattle.attester.specs.Demand3.{Rebuilt}
use Rattle.codes.specs.Code.{key_of}
use Rattle.tree.specs.Edition.{width}
use Rattle.attestation.specs.Verify.{Verified}
use Rattle.extractor.specs.Extract.{Extracted}
use Rattle.examples.specs.F.{code_1_1, code_3_4}
use Rattle.examples.specs.Values.{number}

-- Anyone can check that two records have the same label by `hash`: it accepts each, and of the 32 octets that it leaves of each, what
-- the profile keeps is equal. The full profile keeps them all.
abbrev pub HashAlike : ℕ → Octets → Octets → Type 0
HashAlike profile r s = (h k : Octets) → length h ≡ 32 → length k ≡ 32
    → (t u : Answer) (h' k' : Octets) → Hashed r h t h' → Hashed s k u k' → (t ≡ Done 85) × (u ≡ Done 85) × (kept profile h' ≡ kept profile k')

-- What `extract` answered in the profile for the key x and the attestations a and b, r, and left in its two buffers. The records
-- are those that step 5 of the verdict rebuilds of a and of b, the same number of levels below the root.
pub record Collides (profile : ℕ) (x a b : Octets) (r : Answer) (out₁' out₂' : Octets) : Type 0 where
  pub passed : ℕ
  pub answers : r ≡ Done passed
  pub first_rebuilt : Rebuilt (label profile) x (shown width a) passed out₁'
  pub second_rebuilt : Rebuilt (label profile) x (shown width b) passed out₂'
  pub differ : out₁' ≡ out₂' → ⊥
  pub same_label : label profile out₁' ≡ label profile out₂'
  pub hash_alike : HashAlike profile out₁' out₂'

-- the verdicts on a and b contradict each other
abbrev pub Contradict : ℕ → Octets → Octets → Octets → Octets → Type 0
Contradict profile x d a b = (Verified profile x d a Present × Verified profile x d b Absent) ⊎ (Verified profile x d a Absent × Verified profile x d b Present)

-- Two buffers of 85 octets are lent; nothing is asked of the digest d, nor of the profile's number.
abbrev pub Demand3 : Type 0
Demand3 =
    (profile : ℕ) (x d a b : Octets) → Contradict profile x d a b
    → (out₁ out₂ : Octets) → length out₁ ≡ 85 → length out₂ ≡ 85
    → (r : Answer) (out₁' out₂' : Octets) → Extracted profile x d a b out₁ out₂ r out₁' out₂' → Collides profile x a b r out₁' out₂'

-- the number n as a key is judged both ways in the drill under the digest of the list of k alone: absent by the attestation that is
-- issued there, present by the one that is issued under the list of the number alone
abbrev pub ContradictsInDrill : Octets → ℕ → Type 0
ContradictsInDrill k n =
    Contradict drill (number n) (digest (label drill) (k ∷ [])) (attestation (label drill) (k ∷ []) (number n)) (attestation (label drill) (number n ∷ []) (number n))

-- There are such contradictions, so demand 3 does not speak of nothing: that of `docs/DRILL.md`, and another.
pub record DrillContradicts : Type 0 where
  pub of_3_4 : ContradictsInDrill (key_of code_3_4) 16401
  pub of_1_1 : ContradictsInDrill (key_of code_1_1) 78159
