-- Demand 2 at the profile's label, from the theory's: the octets of a listing are admitted as that listing, so `digest` leaves its digest and
-- `attest` its attestation, whose octets `verify` is then given.
use mathlib.Core.Path.{◌≡◌, refl, sym, ap, ◌∙◌}
use mathlib.Core.Bool.{Bool, true, false, cond}
use mathlib.Core.List.{List, ◌++◌, flatten}
use Prim.Native.Nat.{ℕ, ◌*◌, ◌≤◌}
use native.Mathlib.Omega.{arith}
use borrow.Author.Tests.{eq-eqb, eqb-true, le-leb, leb-true}
use lib.Dec.{eqb, leb}
use lib.ListN.{length, take, drop}
use lib.Seq.{take_at}
use Rattle.answer.specs.Answer.{Answer, Done, Refused, written}
use Rattle.answer.specs.Verdict.{Verdict, Present, Absent}
use Rattle.answer.specs.Verdict as verdicts
use Rattle.answer.proofs.WrittenLaws.{written_whole}
use Rattle.answer.specs.Refusals.{size, too_short}
use Rattle.octets.specs.Order.{Octets}
use Rattle.profile.specs.Profile.{known, label}
use Rattle.profile.proofs.ProfileLaws.{label_length, label_octets, in_known, other_known}
use Rattle.attester.specs.Entry.{entries}
use Rattle.attester.specs.Label.{digest}
use Rattle.attester.specs.Listing.{Listing}
use Rattle.attester.specs.Admission.{Admission, admitted, refused, admit}
use Rattle.attester.specs.Verdict.{present, absent}
use Rattle.attester.specs.Verify.{verify}
use Rattle.attester.specs.Search.{listed}
use Rattle.attester.specs.Attestation.{attestation}
use Rattle.attester.specs.Longest.{Issued, issued_for, Longest}
use Rattle.attester.proofs.AdmissionLaws.{admit_admitted, listing_admitted}
use Rattle.attester.proofs.EntryLaws.{entries_flatten}
use Rattle.attester.proofs.LabelLaws.{digest_length}
use Rattle.attester.proofs.Demand2 as theory
use Rattle.attester.proofs.Longest.{longest_issued_first, longest_taken_first}
use Rattle.codes.specs.Text.{accepted, reading}
use Rattle.codes.specs.Read.{Read}
use Rattle.codes.proofs.AcceptedLaws.{answer_done}
use Rattle.tree.specs.Admitted.{answer_of, entries_of}
use Rattle.tree.specs.Digest.{Digested, digest_answer, digest_octets}
use Rattle.tree.specs.Edition.{width, most}
use Rattle.attestation.specs.Attest.{Attested, issue_answer, attest_answer, attest_octets}
use Rattle.attestation.specs.Verify.{Verified, verdict_of}
use Rattle.sagebutton.specs.Demand2.{Issues, ListingOf, AcceptedAreListings, ReadAreListings, Demand2}
use Rattle.sagebutton.proofs.Demand1.{reading_listing, keys_front, entries_front_read}

pub verdict_cond : (b : Bool) → verdict_of (cond b present absent) ≡ cond b Present Absent
unfolding verdict_of
verdict_cond true = refl
verdict_cond false = refl

-- Which lists are accepted

listing_of : (keys : Octets) (es : List Octets) (n : ℕ) → admit width most keys ≡ admitted es → length es ≡ n → ListingOf n keys
listing_of keys es n a e =
    let m = admit_admitted width most keys es a in
    let parts : entries width n keys ≡ es = rw (← m.whole, ← e) (entries_flatten width es m.listing.sized) in
    record { listing = rw parts m.listing; whole = rw parts (sym m.whole) }

read_are_listings : ReadAreListings
read_are_listings text out n out' r =
    let t = answer_done (reading (length out) text) n (sym r.answered) in
    let front = keys_front text out out' n t.those t.is t.many r.left in
    let parts = entries_front_read text out out' n t.those t.is t.many r.left in
    record {
      listing = rw parts (reading_listing (length out) text t.those t.is);
      whole = rw parts front;
    }

longest_issued : (profile : ℕ) → Longest (Issued (label profile) width most) issued_for 586
longest_issued profile = longest_issued_first (label profile) (label_length profile) (label_octets profile)

module _ (profile : ℕ) (k : known profile ≡ true) where
  -- in a known profile what is answered is document 01's
  digest_told : {keys d : Octets} {r : Answer} {d' : Octets} → Digested profile keys d r d' → r ≡ digest_answer width most keys (length d)
  digest_told {keys} {d} g = g.answered ∙ in_known Refused profile (digest_answer width most keys (length d)) k

  attest_told : {x keys out : Octets} {s : Answer} {out' : Octets} → Attested profile x keys out s out'
      → s ≡ attest_answer (label profile) width most x keys (length out)
  attest_told {x} {keys} {out} h = h.answered ∙ in_known Refused profile (attest_answer (label profile) width most x keys (length out)) k

  verify_told : {x d a : Octets} {v : Verdict} → Verified profile x d a v → v ≡ verdict_of (verify (label profile) width x d a)
  verify_told {x} {d} {a} t = t.answered ∙ in_known verdicts.Refused profile (verdict_of (verify (label profile) width x d a)) k

  module _ (keys : List Octets) (l : Listing width most keys) where
    keys_admitted : admit width most (flatten keys) ≡ admitted keys
    keys_admitted = listing_admitted width most keys (omega arith) l

    -- What `digest` answers and leaves

    module _ (d : Octets) (d32 : length d ≡ 32) (r : Answer) (d' : Octets) (g : Digested profile (flatten keys) d r d') where
      digest_done : r ≡ Done (length keys)
      unfolding digest_answer
      digest_done = digest_told g ∙ rw (eq-eqb (length d) 32 d32, keys_admitted)

      digest_left : d' ≡ digest (label profile) keys
      unfolding digest_octets
      digest_left =
          let w : d' ≡ written (Done (length keys)) (digest (label profile) (entries_of (admit width most (flatten keys)))) d = rw digest_done at g.left in
          let v : d' ≡ written (Done (length keys)) (digest (label profile) keys) d = rw keys_admitted at w in
          v ∙ written_whole (length keys) (digest (label profile) keys) d (digest_length (label profile) (label_length profile) keys ∙ sym d32)

    -- What `attest` answers and leaves

    module _ (x : Octets) (x20 : length x ≡ 20) (out : Octets) (s : Answer) (out' : Octets) (h : Attested profile x (flatten keys) out s out') where
      attest_done : s ≡ cond (leb (length (attestation (label profile) keys x)) (length out)) (Done (length (attestation (label profile) keys x))) (Refused too_short 0)
      unfolding attest_answer issue_answer
      attest_done = attest_told h ∙ rw (eq-eqb (length x) 20 x20, keys_admitted)

      attest_left : length (attestation (label profile) keys x) ≤ length out → take (length (attestation (label profile) keys x)) out' ≡ attestation (label profile) keys x
      unfolding written attest_octets
      attest_left fits =
          let done : s ≡ Done (length (attestation (label profile) keys x)) = attest_done ∙ rw (le-leb (length (attestation (label profile) keys x)) (length out) fits) in
          let w : out' ≡ written (Done (length (attestation (label profile) keys x))) (attestation (label profile) (entries_of (admit width most (flatten keys))) x) out = rw done at h.left in
          let v : out' ≡ attestation (label profile) keys x ++ drop (length (attestation (label profile) keys x)) out = rw keys_admitted at w in
          rw v (take_at (attestation (label profile) keys x) (drop (length (attestation (label profile) keys x)) out) (length (attestation (label profile) keys x)) refl)

      short : length (attestation (label profile) keys x) ≤ 586
      short = (longest_issued profile).most (attestation (label profile) keys x) record { list = keys; listing = l; key = x; key_size = x20; is = refl }

    -- an accepted call answered the length, which fits
    attest_fits : (x : Octets) (x20 : length x ≡ 20) (out : Octets) (m : ℕ) (out' : Octets) → Attested profile x (flatten keys) out (Done m) out'
        → (length (attestation (label profile) keys x) ≡ m) × (length (attestation (label profile) keys x) ≤ length out)
    attest_fits x x20 out m out' h = go (leb (length (attestation (label profile) keys x)) (length out)) refl (attest_done x x20 out (Done m) out' h)
      where
        go : (b : Bool) → leb (length (attestation (label profile) keys x)) (length out) ≡ b
            → Done m ≡ cond b (Done (length (attestation (label profile) keys x))) (Refused too_short 0)
            → (length (attestation (label profile) keys x) ≡ m) × (length (attestation (label profile) keys x) ≤ length out)
        go true e f = (cc, leb-true (length (attestation (label profile) keys x)) (length out) e)
        go false e f = let z : ◌≡◌ {A = ℕ} 0 1 = cc in absurd (omega arith)

  -- An accepted call had its sizes

  attest_key : (x keys out : Octets) (m : ℕ) (out' : Octets) → Attested profile x keys out (Done m) out' → length x ≡ 20
  unfolding attest_answer
  attest_key x keys out m out' h = go (eqb (length x) 20) refl (attest_told h)
    where
      go : (b : Bool) → eqb (length x) 20 ≡ b → Done m ≡ cond b (issue_answer (label profile) x (length out) (admit width most keys)) (Refused size 0) → length x ≡ 20
      go true e f = eqb-true (length x) 20 e
      go false e f = let z : ◌≡◌ {A = ℕ} 0 1 = cc in absurd (omega arith)

  pub digest_room : (keys d : Octets) (n : ℕ) (d' : Octets) → Digested profile keys d (Done n) d' → length d ≡ 32
  unfolding digest_answer
  digest_room keys d n d' g = go (eqb (length d) 32) refl (digest_told g)
    where
      go : (b : Bool) → eqb (length d) 32 ≡ b → Done n ≡ cond b (answer_of (admit width most keys)) (Refused size 0) → length d ≡ 32
      go true e f = eqb-true (length d) 32 e
      go false e f = let z : ◌≡◌ {A = ℕ} 0 1 = cc in absurd (omega arith)

  accepted_are_listings : AcceptedAreListings profile
  unfolding digest_answer
  accepted_are_listings keys d n d' g = go (eqb (length d) 32) (admit width most keys) refl (digest_told g)
    where
      go : (b : Bool) (a : Admission) → admit width most keys ≡ a → Done n ≡ cond b (answer_of a) (Refused size 0) → ListingOf n keys
      go true (admitted es) h e = let m : length es ≡ n = cc in listing_of keys es n h m
      go true (refused m p) h e = let z : ◌≡◌ {A = ℕ} 0 1 = cc in absurd (omega arith)
      go false a h e = let z : ◌≡◌ {A = ℕ} 0 1 = cc in absurd (omega arith)

  -- What is issued under an accepted list

  module _ (keys d : Octets) (n : ℕ) (d' : Octets) (g : Digested profile keys d (Done n) d') where
    -- the list's keys in place of its octets
    l : ListingOf n keys
    l = accepted_are_listings keys d n d' g

    digested : Digested profile (flatten (entries width n keys)) d (Done n) d'
    digested = rw (← l.whole) g

    attested : {x out : Octets} {s : Answer} {out' : Octets} → Attested profile x keys out s out' → Attested profile x (flatten (entries width n keys)) out s out'
    attested h = rw (← l.whole) h

    issued_if_it_fits : (x : Octets) → length x ≡ 20 → (out : Octets) (s : Answer) (out' : Octets) → Attested profile x keys out s out'
        → Issues profile (entries width n keys) x (length out) s
    issued_if_it_fits x x20 out s out' h = record {
      answers = attest_done (entries width n keys) l.listing x x20 out s out' (attested h);
      length_most = short (entries width n keys) l.listing x x20 out s out' (attested h);
    }

    issued_is_accepted : (x out : Octets) (m : ℕ) (out' : Octets) → Attested profile x keys out (Done m) out'
        → (v : Verdict) → Verified profile x d' (take m out') v → v ≡ cond (listed x (entries width n keys)) Present Absent
    issued_is_accepted x out m out' h v told =
        let es = entries width n keys in
        let x20 = attest_key x keys out m out' h in
        let fits = attest_fits es l.listing x x20 out m out' (attested h) in
        let left = digest_left es l.listing d (digest_room keys d n d' g) (Done n) d' digested in
        let octets : take m out' ≡ attestation (label profile) es x = rw fits.0 at (attest_left es l.listing x x20 out (Done m) out' (attested h) fits.1) in
        verify_told told
        ∙ ap verdict_of (rw (left, octets) (theory.demand_2 (label profile) width most (label_length profile) (omega arith) es x l.listing x20))
        ∙ verdict_cond (listed x es)

-- what was digested is of a known profile
pub digest_known : (profile : ℕ) (keys d : Octets) (n : ℕ) (d' : Octets) → Digested profile keys d (Done n) d' → known profile ≡ true
digest_known profile keys d n d' g =
    other_known Refused profile (digest_answer width most keys (length d)) g.answered (λ e. let z : ◌≡◌ {A = ℕ} 0 1 = cc in omega arith)

pub demand_2 : Demand2
demand_2 = record {
  issued_is_accepted = λ profile keys d n d' g. issued_is_accepted profile (digest_known profile keys d n d' g) keys d n d' g;
  issued_if_it_fits = λ profile keys d n d' g. issued_if_it_fits profile (digest_known profile keys d n d' g) keys d n d' g;
  listings_are_accepted =
      λ profile k keys l d d32 r d' g. (digest_done profile k keys l d d32 r d' g, digest_left profile k keys l d d32 r d' g);
  accepted_are_listings = λ profile keys d n d' g. accepted_are_listings profile (digest_known profile keys d n d' g) keys d n d' g;
  read_are_listings = read_are_listings;
  longest_issued = longest_issued;
  longest_taken = λ profile. longest_taken_first (label profile) (label_length profile) (label_octets profile);
}

-- The digest of what was read

pub record DigestOfReading (profile : ℕ) (text : Octets) (room : ℕ) (d' : Octets) : Type 0 where
  pub keys : List Octets
  pub read : reading room text ≡ accepted keys
  pub written : d' ≡ digest (label profile) keys

pub digest_of_reading : (profile : ℕ) → known profile ≡ true → (text out : Octets) (n : ℕ) (out' : Octets) → Read text out (Done n) out'
    → (d : Octets) → length d ≡ 32 → (r : Answer) (d' : Octets) → Digested profile (take (20 * n) out') d r d' → DigestOfReading profile text (length out) d'
digest_of_reading profile k text out n out' r d d32 s d' g =
    let t = answer_done (reading (length out) text) n (sym r.answered) in
    let front = keys_front text out out' n t.those t.is t.many r.left in
    record {
      keys = t.those;
      read = t.is;
      written = digest_left profile k t.those (reading_listing (length out) text t.those t.is) d d32 s d' (rw (← front) g);
    }
