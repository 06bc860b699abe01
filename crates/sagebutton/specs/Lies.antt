-- What demands 2 and 3 say together of a stranger's attestation under a digest that we published: whoever gets a lie accepted has
-- contradicted our own attestation, and `extract` turns the two into a collision. Proved in `proofs/Lies.antt`.
use Rattle.std.specs.Prelude.{◌≡◌, true, false, ◌⊎◌, ℕ}
use Rattle.answer.specs.Answer.{Done}
use Rattle.answer.specs.Verdict.{Present, Absent}
use Rattle.octets.specs.Order.{Octets}
use Rattle.profile.specs.Profile.{label}
use Rattle.attester.specs.Entry.{entries}
use Rattle.attester.specs.Search.{listed}
use Rattle.attester.specs.Attestation.{attestation}
use Rattle.tree.specs.Digest.{Digested}
use Rattle.tree.specs.Edition.{width}
use Rattle.attestation.specs.Verify.{Verified}
use Rattle.sagebutton.specs.Demand3.{Contradict}

-- the octets a are accepted for x under d, and say of x what is not so of the n keys: Present and not listed, or Absent and listed
abbrev pub Lie : ℕ → ℕ → Octets → Octets → Octets → Octets → Type 0
Lie profile n keys x d a =
    (Verified profile x d a Present × (listed x (entries width n keys) ≡ false)) ⊎ (Verified profile x d a Absent × (listed x (entries width n keys) ≡ true))

-- of a list that `digest` accepted, with its n keys and what was left, d': a lie contradicts the attestation that we issue for x
abbrev pub LiesAreContradicted : Type 0
LiesAreContradicted =
    (profile : ℕ) (keys d : Octets) (n : ℕ) (d' : Octets) → Digested profile keys d (Done n) d'
    → (x a : Octets) → Lie profile n keys x d' a → Contradict profile x d' a (attestation (label profile) (entries width n keys) x)
