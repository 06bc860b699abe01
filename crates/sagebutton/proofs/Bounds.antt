-- Each promise gives the answer by a definition, and the definitions' bounds are laws of their own crates; an unknown profile adds 17
-- at 0, and the drill tells of each answer what it was given for.
use mathlib.Core.Path.{◌≡◌, refl, sym, ap, subst, ◌∙◌}
use mathlib.Core.Bool.{Bool, true, false, cond, ◌||◌, not}
use Prim.Native.Nat.{ℕ, ◌*◌, ◌≤◌}
use native.Mathlib.Omega.{arith}
use borrow.Author.Tests.{ltb-false, eqb-true}
use lib.Dec.{ltb, eqb, leb}
use lib.ListN.{length}
use Rattle.answer.specs.Answer.{Answer, Done, Refused}
use Rattle.answer.specs.Verdict.{Verdict}
use Rattle.answer.specs.Verdict as verdict
use Rattle.answer.specs.Refusals.{size, too_short, form, unknown_profile, IsRefusal}
use Rattle.octets.specs.Order.{Octets, AreOctets}
use Rattle.sha256.specs.Hash.{hash_answer}
use Rattle.codes.specs.Text.{Reading, accepted, reading}
use Rattle.codes.specs.Text as text
use Rattle.codes.specs.Read.{answer}
use Rattle.codes.proofs.BoundLaws.{reading_few, reading_refused}
use Rattle.profile.specs.Profile.{known, label, in_profile}
use Rattle.profile.proofs.ProfileLaws.{label_length, label_octets, in_known}
use Rattle.attester.specs.Admission.{Admission, admitted, refused, admit}
use Rattle.attester.specs.Attestation.{attestation}
use Rattle.attester.specs.Verdict.{Judgement, present, absent}
use Rattle.attester.specs.Verdict as judgement
use Rattle.attester.specs.Verify.{verify}
use Rattle.attester.specs.Extract.{Extraction, extracted, extract}
use Rattle.attester.specs.Extract as extraction
use Rattle.attester.proofs.AdmissionLaws.{admit_admitted, admit_refused}
use Rattle.attester.proofs.PlaceLaws.{verify_refused, extract_passed, extract_refused}
use Rattle.attester.proofs.VerifyLaws.{verify_spoilt}
use Rattle.attester.proofs.Longest.{furthest_spoilt, longest_issued_first}
use Rattle.tree.specs.Edition.{width, most}
use Rattle.tree.specs.Admitted.{answer_of}
use Rattle.tree.specs.Digest.{digest_answer}
use Rattle.attestation.specs.Attest.{issue_answer, attest_answer}
use Rattle.attestation.specs.Verify.{Verified, verdict_of}
use Rattle.extractor.specs.Extract.{extraction_answer}
use Rattle.contradiction.specs.Shows.{RefusedFor, wrong_size, wrong_text, more_than_one}
use Rattle.contradiction.proofs.Shows.{shows}
use Rattle.sagebutton.specs.Bounds.{AnswersWithin, Bounds}

-- an answer of at most `value`, or a refusal with its number and a place of at most `place`
abbrev Within : ℕ → ℕ → Answer → Type 0
Within value place (Done n) = n ≤ value
Within value place (Refused m p) = IsRefusal m × (p ≤ place)

abbrev VerdictWithin : ℕ → Verdict → Type 0
VerdictWithin place verdict.Present = Unit {0}
VerdictWithin place verdict.Absent = Unit {0}
VerdictWithin place (verdict.Refused m p) = IsRefusal m × (p ≤ place)

-- a promise that gives the answer a
answers_within : (value place : ℕ) {Meets : Answer → Type 0} (a : Answer) → Within value place a → ((r : Answer) → Meets r → r ≡ a)
    → AnswersWithin value place Meets
answers_within value place {Meets} a w gives = record {
  done = λ n h. each (Done n) h;
  refusals = record { numbered = λ m p h. (each (Refused m p) h).0; placed = λ m p h. (each (Refused m p) h).1 };
}
  where
    each : (r : Answer) → Meets r → Within value place r
    each r h = subst (Within value place) (sym (gives r h)) w

-- 17 at 0, or what is answered
in_profile_within : (value place profile : ℕ) (a : Answer) → Within value place a → Within value place (in_profile Refused profile a)
in_profile_within value place profile a w = go (known profile)
  where
    go : (b : Bool) → Within value place (cond b a (Refused unknown_profile 0))
    go true = w
    go false = ((omega arith, omega arith), omega arith)

hash_within : (msg : Octets) (n : ℕ) → Within 65535 0 (hash_answer msg n)
unfolding hash_answer
hash_within msg n = go (ltb 65535 (length msg)) (eqb n 32) refl
  where
    go : (a b : Bool) → ltb 65535 (length msg) ≡ a → Within 65535 0 (cond (a || not b) (Refused size 0) (Done (length msg)))
    go true b e = ((omega arith, omega arith), omega arith)
    go false true e = ltb-false 65535 (length msg) e
    go false false e = ((omega arith, omega arith), omega arith)

read_within : (room : ℕ) (s : Octets) → Within 3000 3003 (answer (reading room s))
unfolding answer
read_within room s = go (reading room s) refl
  where
    go : (r : Reading) → reading room s ≡ r → Within 3000 3003 (answer r)
    go (accepted ks) e = reading_few room s ks e
    go (text.refused m p) e = reading_refused room s m p e

digest_within : (keys : Octets) (room : ℕ) → Within 3000 2999 (digest_answer width most keys room)
unfolding digest_answer
digest_within keys room = go (eqb room 32) (admit width most keys) refl
  where
    go : (b : Bool) (a : Admission) → admit width most keys ≡ a → Within 3000 2999 (cond b (answer_of a) (Refused size 0))
    go false a e = ((omega arith, omega arith), omega arith)
    go true (admitted es) e = (admit_admitted width most keys es e).listing.few
    go true (refused m p) e = admit_refused width most keys m p e

attest_within : (profile : ℕ) (x keys : Octets) (room : ℕ) → Within 586 2999 (attest_answer (label profile) width most x keys room)
unfolding attest_answer issue_answer
attest_within profile x keys room = go (eqb (length x) 20) (admit width most keys) refl refl
  where
    go : (b : Bool) (a : Admission) → eqb (length x) 20 ≡ b → admit width most keys ≡ a
        → Within 586 2999 (cond b (issue_answer (label profile) x room a) (Refused size 0))
    go false a n e = ((omega arith, omega arith), omega arith)
    go true (refused m p) n e = admit_refused width most keys m p e
    go true (admitted es) n e = issued (leb (length (attestation (label profile) es x)) room)
      where
        issued : (c : Bool) → Within 586 2999 (cond c (Done (length (attestation (label profile) es x))) (Refused too_short 0))
        issued false = ((omega arith, omega arith), omega arith)
        issued true =
            (longest_issued_first (label profile) (label_length profile) (label_octets profile)).most (attestation (label profile) es x)
            record { list = es; listing = (admit_admitted width most keys es e).listing; key = x; key_size = eqb-true (length x) 20 n; is = refl }

verdict_within : (H : Octets → Octets) (x d a : Octets) → VerdictWithin 1731 (verdict_of (verify H width x d a))
unfolding verdict_of
verdict_within H x d a = go (verify H width x d a) refl
  where
    go : (j : Judgement) → verify H width x d a ≡ j → VerdictWithin 1731 (verdict_of j)
    go present e = tt
    go absent e = tt
    go (judgement.refused m p) e = verify_refused H width x d a m p e

verify_within : (profile : ℕ) (x d a : Octets) → VerdictWithin 1731 (in_profile verdict.Refused profile (verdict_of (verify (label profile) width x d a)))
verify_within profile x d a = go (known profile)
  where
    go : (b : Bool) → VerdictWithin 1731 (cond b (verdict_of (verify (label profile) width x d a)) (verdict.Refused unknown_profile 0))
    go true = verdict_within (label profile) x d a
    go false = ((omega arith, omega arith), omega arith)

verify_furthest : (profile : ℕ) (x d : Octets) → known profile ≡ true → length x ≡ 20 → length d ≡ 32
    → (a : Octets) × AreOctets a × Verified profile x d a (verdict.Refused form 1731)
unfolding verdict_of
verify_furthest profile x d k n m =
    let f = furthest_spoilt width (omega arith) in
    let v : verdict_of (verify (label profile) width x d f.0) ≡ verdict.Refused form 1731 =
    ap verdict_of (verify_spoilt (label profile) width x d f.0 n m 1731 f.2) in
    (f.0, f.1, record { answered = sym (in_known verdict.Refused profile (verdict_of (verify (label profile) width x d f.0)) k ∙ v) })

extract_within : (H : Octets → Octets) (x d a b : Octets) (n m : ℕ) → Within 31 2 (extraction_answer (extract H width x d a b n m))
unfolding extraction_answer
extract_within H x d a b n m = go (extract H width x d a b n m) refl
  where
    go : (e : Extraction) → extract H width x d a b n m ≡ e → Within 31 2 (extraction_answer e)
    go (extracted f) e = extract_passed H width x d a b n m f e
    go (extraction.refused i j) e = extract_refused H width x d a b n m i j e

drill_within : {s out₁ out₂ : Octets} {m p : ℕ} → RefusedFor s out₁ out₂ m p → IsRefusal m × (p ≤ 3003)
drill_within (wrong_size h e f) = ((omega arith, omega arith), omega arith)
drill_within {s} {m = m} {p = p} (wrong_text h) = reading_refused (most * width) s m p h
drill_within (more_than_one ks h l e f) = ((omega arith, omega arith), omega arith)

pub bounds : Bounds
bounds = record {
  hash = λ msg out out'. answers_within 65535 0 (hash_answer msg (length out)) (hash_within msg (length out)) (λ r h. h.answered);
  read_list = λ s out out'. answers_within 3000 3003 (answer (reading (length out) s)) (read_within (length out) s) (λ r h. h.answered);
  digest = λ profile keys out out'.
      let a = digest_answer width most keys (length out) in
      answers_within 3000 2999 (in_profile Refused profile a) (in_profile_within 3000 2999 profile a (digest_within keys (length out))) (λ r h. h.answered);
  attest = λ profile x keys out out'.
      let a = attest_answer (label profile) width most x keys (length out) in
      answers_within 586 2999 (in_profile Refused profile a) (in_profile_within 586 2999 profile a (attest_within profile x keys (length out)))
      (λ r h. h.answered);
  verify = λ profile x d a. record {
    numbered = λ m p h. (subst (VerdictWithin 1731) (sym h.answered) (verify_within profile x d a)).0;
    placed = λ m p h. (subst (VerdictWithin 1731) (sym h.answered) (verify_within profile x d a)).1;
  };
  verify_furthest = verify_furthest;
  extract = λ profile x d a b out₁ out₂ out₁' out₂'.
      let e = extraction_answer (extract (label profile) width x d a b (length out₁) (length out₂)) in
      answers_within 31 2 (in_profile Refused profile e)
      (in_profile_within 31 2 profile e (extract_within (label profile) x d a b (length out₁) (length out₂))) (λ r h. h.answered);
  drill_found = λ s bound out₁ out₂ out₁' out₂' small n h. ((shows.answers_tell s bound out₁ out₂ out₁' out₂').found_tells small n h).within;
  drill = λ s bound out₁ out₂ out₁' out₂'. record {
    numbered = λ m p h. (drill_within ((shows.answers_tell s bound out₁ out₂ out₁' out₂').refused_tells m p h)).0;
    placed = λ m p h. (drill_within ((shows.answers_tell s bound out₁ out₂ out₁' out₂').refused_tells m p h)).1;
  };
}
