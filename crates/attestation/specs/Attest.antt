-- The promise of `attest` (01, "Numbers a caller can meet"; 02, vi).
use Rattle.std.specs.Prelude.{◌≡◌, cond, ℕ, eqb, leb, length}
use Rattle.answer.specs.Answer.{Answer, Done, Refused, written}
use Rattle.answer.specs.Refusals.{size, too_short}
use Rattle.octets.specs.Order.{Octets}
use Rattle.profile.specs.Profile.{label, in_profile}
use Rattle.attester.specs.Admission.{Admission, admitted, refused, admit}
use Rattle.attester.specs.Attestation.{attestation}
use Rattle.tree.specs.Admitted.{entries_of}
use Rattle.tree.specs.Edition.{width, most}

-- "then 6 exactly when the finished attestation would exceed the buffer. Attest answers the length"
unfoldable pub issue_answer : (Octets → Octets) → Octets → ℕ → Admission → Answer
issue_answer H x room (refused m p) = Refused m p
issue_answer H x room (admitted es) =
    cond (leb (length (attestation H es x)) room) (Done (length (attestation H es x))) (Refused too_short 0)

-- "Attest order: key not 20 octets (1), 2, 3, 4, 5, then 6"
unfoldable pub attest_answer : (Octets → Octets) → ℕ → ℕ → Octets → Octets → ℕ → Answer
attest_answer H w limit x keys room = cond (eqb (length x) 20) (issue_answer H x room (admit w limit keys)) (Refused size 0)

-- what an accepted call writes
unfoldable pub attest_octets : (Octets → Octets) → ℕ → ℕ → Octets → Octets → Octets
attest_octets H w limit x keys = attestation H (entries_of (admit w limit keys)) x

-- what `attest` in a profile of the key x under keys into out answers, r, and what it leaves there, out'
pub record Attested (profile : ℕ) (x keys out : Octets) (r : Answer) (out' : Octets) : Type 0 where
  pub answered : r ≡ in_profile Refused profile (attest_answer (label profile) width most x keys (length out))
  pub left : out' ≡ written r (attest_octets (label profile) width most x keys) out
