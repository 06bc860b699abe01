-- Demand 2 (`docs/PROMISES.md`): of any accepted list and any key of 20 octets, the attestation that is issued is accepted under the
-- list's digest, as Present if the key is listed and as Absent if it is not. It is stated of what the functions promise, so of what a
-- caller holds in its buffers, and proved in `proofs/Demand2.antt`. 02 (vi): "under one profile number throughout: digest, issue, both
-- verdicts and extractor alike"; `attester` has the same over any function from records to labels.
use Rattle.std.specs.Prelude.{◌≡◌, true, cond, ℕ, ◌*◌, ◌≤◌, leb, length, take}
use mathlib.Core.List.{List, flatten}
use Rattle.answer.specs.Answer.{Answer, Done, Refused}
use Rattle.answer.specs.Verdict.{Verdict, Present, Absent}
use Rattle.answer.specs.Refusals.{too_short}
use Rattle.octets.specs.Order.{Octets}
use Rattle.profile.specs.Profile.{known, label}
use Rattle.attester.specs.Entry.{entries}
use Rattle.attester.specs.Label.{digest}
use Rattle.attester.specs.Listing.{Listing}
use Rattle.attester.specs.Search.{listed}
use Rattle.attester.specs.Attestation.{attestation}
use Rattle.attester.specs.Longest.{Issued, Taken, issued_for, taken_for, Longest}
use Rattle.codes.specs.Read.{Read}
use Rattle.tree.specs.Digest.{Digested}
use Rattle.tree.specs.Edition.{width, most}
use Rattle.attestation.specs.Attest.{Attested}
use Rattle.attestation.specs.Verify.{Verified}

-- A list that `digest` accepted, with its n keys and what was left, d'; an attestation for x that `attest` issued under it, the
-- first m octets of what was left, out'; and any verdict of `verify` on those octets under d'.
abbrev pub IssuedIsAccepted : ℕ → Type 0
IssuedIsAccepted profile =
    (keys d : Octets) (n : ℕ) (d' : Octets) → Digested profile keys d (Done n) d'
    → (x out : Octets) (m : ℕ) (out' : Octets) → Attested profile x keys out (Done m) out'
    → (v : Verdict) → Verified profile x d' (take m out') v → v ≡ cond (listed x (entries width n keys)) Present Absent

-- what `attest` answers for the key x under an accepted list, in so much room: 6 exactly when the attestation is longer, and for
-- none is more than 586 needed
pub record Issues (profile : ℕ) (keys : List Octets) (x : Octets) (room : ℕ) (s : Answer) : Type 0 where
  pub answers : s ≡ cond (leb (length (attestation (label profile) keys x)) room) (Done (length (attestation (label profile) keys x))) (Refused too_short 0)
  pub length_most : length (attestation (label profile) keys x) ≤ 586

-- An attestation is issued for any key of 20 octets under any list that `digest` accepted, if there is room.
abbrev pub IssuedIfItFits : ℕ → Type 0
IssuedIfItFits profile =
    (keys d : Octets) (n : ℕ) (d' : Octets) → Digested profile keys d (Done n) d'
    → (x : Octets) → length x ≡ 20 → (out : Octets) (s : Answer) (out' : Octets) → Attested profile x keys out s out'
    → Issues profile (entries width n keys) x (length out) s

-- The accepted lists are those of 1 to 3,000 keys of 20 octets, strictly ascending: each is accepted, with its digest,
abbrev pub ListingsAreAccepted : ℕ → Type 0
ListingsAreAccepted profile =
    (keys : List Octets) → Listing width most keys
    → (d : Octets) → length d ≡ 32 → (r : Answer) (d' : Octets) → Digested profile (flatten keys) d r d'
    → (r ≡ Done (length keys)) × (d' ≡ digest (label profile) keys)

-- these octets are such a list's, one key after another
pub record ListingOf (n : ℕ) (octets : Octets) : Type 0 where
  pub listing : Listing width most (entries width n octets)
  pub whole : octets ≡ flatten (entries width n octets)

-- and no other is.
abbrev pub AcceptedAreListings : ℕ → Type 0
AcceptedAreListings profile = (keys d : Octets) (n : ℕ) (d' : Octets) → Digested profile keys d (Done n) d' → ListingOf n keys

-- What `read_list` wrote of an accepted text is such a list. `Demand1` says that it is the text's.
abbrev pub ReadAreListings : Type 0
ReadAreListings = (text out : Octets) (n : ℕ) (out' : Octets) → Read text out (Done n) out' → ListingOf n (take (width * n) out')

-- Each with one profile throughout. What `digest` accepted is of a known profile, so that lists are accepted alone asks for one.
pub record Demand2 : Type 0 where
  pub issued_is_accepted : (profile : ℕ) → IssuedIsAccepted profile
  pub issued_if_it_fits : (profile : ℕ) → IssuedIfItFits profile
  pub listings_are_accepted : (profile : ℕ) → known profile ≡ true → ListingsAreAccepted profile
  pub accepted_are_listings : (profile : ℕ) → AcceptedAreListings profile
  pub read_are_listings : ReadAreListings
  -- 01, "The attestation": "The longest the verifier takes is 1,731 octets; the longest we issue is 586." Each is reached.
  pub longest_issued : (profile : ℕ) → Longest (Issued (label profile) width most) issued_for 586
  pub longest_taken : (profile : ℕ) → Longest (Taken (label profile) width) taken_for 1731
