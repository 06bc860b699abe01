-- By demand 2 our own attestation is accepted under the list's digest and tells what is so, and the lie tells the other.
use mathlib.Core.Path.{◌≡◌, sym, ap, ◌∙◌}
use mathlib.Core.Bool.{true, cond}
use mathlib.Core.List.{List}
use mathlib.Core.Logic.{inl, inr}
use Prim.Native.Nat.{ℕ}
use native.Mathlib.Omega.{arith}
use lib.ListN.{length}
use Rattle.answer.specs.Answer.{Done}
use Rattle.answer.specs.Verdict.{Present, Absent}
use Rattle.answer.specs.Verdict as verdicts
use Rattle.octets.specs.Order.{Octets}
use Rattle.profile.specs.Profile.{known, label}
use Rattle.profile.proofs.ProfileLaws.{label_length, in_known}
use Rattle.attester.specs.Entry.{entries}
use Rattle.attester.specs.Label.{digest}
use Rattle.attester.specs.Verdict.{Accepted}
use Rattle.attester.specs.Verify.{verify}
use Rattle.attester.specs.Search.{listed}
use Rattle.attester.specs.Attestation.{attestation}
use Rattle.attester.proofs.VerifyLaws.{verify_accepted}
use Rattle.attester.proofs.Demand2 as theory
use Rattle.tree.specs.Digest.{Digested}
use Rattle.tree.specs.Edition.{width, most}
use Rattle.attestation.specs.Verify.{verdict_of, Verified}
use Rattle.sagebutton.specs.Demand2.{ListingOf}
use Rattle.sagebutton.specs.Lies.{LiesAreContradicted}
use Rattle.sagebutton.proofs.Demand2.{demand_2, digest_known, digest_room, verdict_cond}
use Rattle.sagebutton.proofs.Demand3.{is_present, is_absent}

module _ (profile : ℕ) (keys d : Octets) (n : ℕ) (d' : Octets) (g : Digested profile keys d (Done n) d') (x : Octets) where
  abbrev es : List Octets
  es = entries width n keys

  abbrev ours : Octets
  ours = attestation (label profile) es x

  is_known : known profile ≡ true
  is_known = digest_known profile keys d n d' g

  l : ListingOf n keys
  l = demand_2.accepted_are_listings profile keys d n d' g

  root : d' ≡ digest (label profile) es
  root =
      (demand_2.listings_are_accepted profile is_known es l.listing d (digest_room profile is_known keys d n d' g) (Done n) d'
      (rw (← l.whole) g)).1

  -- our own attestation tells what is so
  told : length x ≡ 20 → Verified profile x d' ours (cond (listed x es) Present Absent)
  told x20 = record {
    answered =
        sym (verdict_cond (listed x es))
        ∙ ap verdict_of (sym (rw root (theory.demand_2 (label profile) width most (label_length profile) (omega arith) es x l.listing x20)))
        ∙ sym (in_known verdicts.Refused profile (verdict_of (verify (label profile) width x d' ours)) is_known);
  }

  -- a key that was judged has its size
  judged_key : (a : Octets) → Accepted (verify (label profile) width x d' a) → length x ≡ 20
  judged_key a h = (verify_accepted (label profile) width x d' a h).key_size

pub lies_are_contradicted : LiesAreContradicted
lies_are_contradicted profile keys d n d' g x a (inl h) =
    let x20 = judged_key profile keys d n d' g x a (rw (is_present profile x d' a h.0) tt) in
    inl (h.0, rw h.1 at (told profile keys d n d' g x x20))
lies_are_contradicted profile keys d n d' g x a (inr h) =
    let x20 = judged_key profile keys d n d' g x a (rw (is_absent profile x d' a h.0) tt) in
    inr (h.0, rw h.1 at (told profile keys d n d' g x x20))
