-- What is kept of a verdict tells its judgement.
use mathlib.Core.Path.{◌≡◌, refl, ap}
use Prim.Native.Nat.{ℕ}
use native.Mathlib.Omega.{arith}
use Rattle.std.specs.Prelude.{Ok, Err}
use Rattle.answer.specs.declared.Refusal.{Refusal}
use Rattle.answer.specs.declared.Verdict.{Verdict}
use Rattle.answer.specs.declared.Verdict.TheVariants.{Present, Absent}
use Rattle.answer.specs.Said.{number_of, said_verdict}
use Rattle.attester.specs.Verdict.{Judgement, present, absent, refused, Accepted}
use Rattle.attestation.specs.Verify.{verdict_of}
use Rattle.extractor.specs.Told.{told}

-- the judgement of an accepted attestation
pub judgement : Verdict → Judgement
judgement Present = present
judgement Absent = absent

pub accepted : (p : Verdict) → Accepted (judgement p)
unfolding judgement
accepted Present = tt
accepted Absent = tt

pub judgement_tells : (p q : Verdict) → judgement p ≡ judgement q → p ≡ q
unfolding judgement
judgement_tells Present Present e = refl
judgement_tells Present Absent e = cc
judgement_tells Absent Present e = cc
judgement_tells Absent Absent e = refl

module _ (which : ℕ) where
  pub told_accepted : (p : Verdict) (j : Judgement) → said_verdict (Ok p) ≡ told which (verdict_of j) → j ≡ judgement p
  unfolding told verdict_of judgement
  told_accepted Present present e = refl
  told_accepted Present absent e = cc
  told_accepted Present (refused m q) e = cc
  told_accepted Absent present e = cc
  told_accepted Absent absent e = refl
  told_accepted Absent (refused m q) e = cc

  -- the refusal's number is the judgement's, its place which attestation it was
  pub record Refusing (r : Refusal) (j : Judgement) : Type 0 where
    pub place : ℕ
    pub is : j ≡ refused (number_of r.reason) place
    pub which_one : r.place ≡ which

  pub told_refused : (r : Refusal) (j : Judgement) → said_verdict (Err r) ≡ told which (verdict_of j) → Refusing r j
  unfolding told verdict_of
  told_refused r present e = let z : ◌≡◌ {A = ℕ} 0 1 = cc in absurd (omega arith)
  told_refused r absent e = let z : ◌≡◌ {A = ℕ} 0 1 = cc in absurd (omega arith)
  told_refused r (refused m q) e =
      let n : m ≡ number_of r.reason = cc in
      record { place = q; is = ap (λ k. refused k q) n; which_one = cc }
