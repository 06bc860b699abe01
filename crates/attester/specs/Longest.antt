-- The longest attestations (01, "The attestation": "The longest the verifier takes is 1,731 octets; the longest we issue is
-- 586."), over any function H from records to labels.
use Rattle.std.specs.Prelude.{◌≡◌, List, [], ◌∷◌, ℕ, ◌≤◌, length}
use Rattle.octets.specs.Order.{Octets, AreOctets}
use Rattle.attester.specs.Listing.{Each, Listing}
use Rattle.attester.specs.Verdict.{Accepted}
use Rattle.attester.specs.Attestation.{attestation}
use Rattle.attester.specs.Verify.{verify}

-- octets that are issued, for some key in some accepted list
pub record Issued (H : Octets → Octets) (w most : ℕ) (a : Octets) : Type 0 where
  pub list : List Octets
  pub listing : Listing w most list
  pub key : Octets
  pub key_size : length key ≡ 20
  pub is : a ≡ attestation H list key

-- octets that the verifier takes, for some key under some digest
pub record Taken (H : Octets → Octets) (w : ℕ) (a : Octets) : Type 0 where
  pub key : Octets
  pub digest : Octets
  pub accepted : Accepted (verify H w key digest a)

-- what they are issued for: the key, and the list's entries
abbrev pub issued_for : {H : Octets → Octets} {w most : ℕ} (a : Octets) → Issued H w most a → List Octets
issued_for a i = i.key ∷ i.list

-- what they are taken for: the key and the digest
abbrev pub taken_for : {H : Octets → Octets} {w : ℕ} (a : Octets) → Taken H w a → List Octets
taken_for a t = t.key ∷ t.digest ∷ []

-- none has more than n octets, and one has n; that one, and what it is for, are octets indeed, each below 256
pub record Longest (Is : Octets → Type 0) (for : (a : Octets) → Is a → List Octets) (n : ℕ) : Type 0 where
  pub most : (a : Octets) → Is a → length a ≤ n
  pub longest : Octets
  pub is : Is longest
  pub reached : length longest ≡ n
  pub octets : AreOctets longest
  pub for_octets : Each AreOctets (for longest is)
