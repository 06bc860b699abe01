-- 02 (vi): what hangs on a profile's number, of the promises. Proved in `proofs/Profiles.antt`.
use Rattle.std.specs.Prelude.{◌≡◌, true, false, ◌++◌, ◌⊎◌, ℕ, take, replicate}
use Rattle.answer.specs.Answer.{Answer, Refused}
use Rattle.answer.specs.Verdict.{Verdict}
use Rattle.answer.specs.Verdict as verdict
use Rattle.octets.specs.Order.{Octets}
use Rattle.sha256.specs.Fips180.{sha256}
use Rattle.profile.specs.Profile.{known, label}
use Rattle.tree.specs.Digest.{Digested}
use Rattle.attestation.specs.Attest.{Attested}
use Rattle.attestation.specs.Verify.{Verified}
use Rattle.extractor.specs.Extract.{Extracted}

-- "17, an unknown profile, before all others", whatever the other arguments are; and the buffers stay
pub record RefusedWith17 (profile : ℕ) : Type 0 where
  pub digest : (keys out : Octets) (r : Answer) (out' : Octets) → Digested profile keys out r out' → (r ≡ Refused 17 0) × (out' ≡ out)
  pub attest : (x keys out : Octets) (r : Answer) (out' : Octets) → Attested profile x keys out r out' → (r ≡ Refused 17 0) × (out' ≡ out)
  pub verify : (x d a : Octets) (v : Verdict) → Verified profile x d a v → v ≡ verdict.Refused 17 0
  pub extract : (x d a b out₁ out₂ : Octets) (r : Answer) (out₁' out₂' : Octets) → Extracted profile x d a b out₁ out₂ r out₁' out₂'
      → (r ≡ Refused 17 0) × (out₁' ≡ out₁) × (out₂' ≡ out₂)

-- "0 for full, 1 for drill", and no other; in the full one a label is document 01's
pub record Profiles : Type 0 where
  pub full_known : known 0 ≡ true
  pub drill_known : known 1 ≡ true
  pub no_other : (profile : ℕ) → known profile ≡ true → (profile ≡ 0) ⊎ (profile ≡ 1)
  pub full_label : (r : Octets) → label 0 r ≡ sha256 r
  pub drill_label : (r : Octets) → label 1 r ≡ take 2 (sha256 r) ++ replicate 30 0
  pub others_refused : (profile : ℕ) → known profile ≡ false → RefusedWith17 profile
