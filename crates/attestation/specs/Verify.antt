-- The promise of `verify` (01, "Verdict"; 02, vi).
use Rattle.std.specs.Prelude.{◌≡◌, ℕ}
use Rattle.answer.specs.Verdict.{Verdict, Present, Absent, Refused}
use Rattle.octets.specs.Order.{Octets}
use Rattle.profile.specs.Profile.{label, in_profile}
use Rattle.attester.specs.Verdict.{Judgement, present, absent, refused}
use Rattle.attester.specs.Verify.{verify}
use Rattle.tree.specs.Edition.{width}

-- 01, step 6, or a refusal's number and place
unfoldable pub verdict_of : Judgement → Verdict
verdict_of present = Present
verdict_of absent = Absent
verdict_of (refused m p) = Refused m p

-- what `verify` in a profile of the key x and the octets a, under the digest d, answers, r
pub record Verified (profile : ℕ) (x d a : Octets) (r : Verdict) : Type 0 where
  pub answered : r ≡ in_profile Refused profile (verdict_of (verify (label profile) width x d a))
