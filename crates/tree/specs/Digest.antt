-- The promise of `digest` (01, "Numbers a caller can meet"; 02, vi).
use Rattle.std.specs.Prelude.{◌≡◌, cond, ℕ, eqb, length}
use Rattle.answer.specs.Answer.{Answer, Refused, written}
use Rattle.answer.specs.Refusals.{size}
use Rattle.octets.specs.Order.{Octets}
use Rattle.profile.specs.Profile.{label, in_profile}
use Rattle.attester.specs.Admission.{admit}
use Rattle.attester.specs.Label.{digest}
use Rattle.tree.specs.Admitted.{answer_of, entries_of}
use Rattle.tree.specs.Edition.{width, most}

-- 01: "Digest order: output not 32 octets (1), 2, 3, 4, 5"; an accepted digest "answers the number of keys"
unfoldable pub digest_answer : ℕ → ℕ → Octets → ℕ → Answer
digest_answer w limit keys room = cond (eqb room 32) (answer_of (admit w limit keys)) (Refused size 0)

-- what an accepted digest writes: the digest of the list's entries, by the label function H
unfoldable pub digest_octets : (Octets → Octets) → ℕ → ℕ → Octets → Octets
digest_octets H w limit keys = digest H (entries_of (admit w limit keys))

-- what `digest` in a profile of keys into out answers, r, and what it leaves there, out'
pub record Digested (profile : ℕ) (keys out : Octets) (r : Answer) (out' : Octets) : Type 0 where
  pub answered : r ≡ in_profile Refused profile (digest_answer width most keys (length out))
  pub left : out' ≡ written r (digest_octets (label profile) width most keys) out
