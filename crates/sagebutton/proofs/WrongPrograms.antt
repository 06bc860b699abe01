-- Each wrong program by one small input on which the promise says otherwise: two messages, the list of one key, the text of one code,
-- document 01's list F. The extractors are in `WrongExtractors`.
use mathlib.Core.Path.{◌≡◌, refl, sym, ap, ◌∙◌, subst⁻¹}
use mathlib.Core.Bool.{true}
use mathlib.Core.List.{List, [], ◌∷◌, ◌++◌, flatten}
use mathlib.Core.Logic.{inl, inr}
use mathlib.Core.Option.{none, some}
use Prim.Native.Nat.{ℕ, ◌≤◌, ◌<◌}
use native.Mathlib.Omega.{arith}
use borrow.Author.Tests.{le-leb, le-ltb}
use lib.ListN.{length, drop, replicate, get_or}
use Rattle.answer.specs.Answer.{Answer, Done, Refused, written}
use Rattle.answer.specs.Verdict.{Verdict}
use Rattle.answer.specs.Verdict as verdict
use Rattle.answer.specs.Refusals.{too_short}
use Rattle.octets.specs.Order.{Octets, AreOctets, order, same}
use Rattle.octets.proofs.OctetLaws.{octets_append, octets_zeros}
use Rattle.sha256.specs.Fips180.{octets, sha256}
use Rattle.sha256.specs.Hash.{hash_answer, Hashed}
use Rattle.sha256.proofs.Examples.{examples}
use Rattle.profile.specs.Profile.{full, drill, short, known, label}
use Rattle.profile.proofs.ProfileLaws.{label_length, label_full, label_drill, in_known, known_numbers}
use Rattle.attester.specs.Entry.{key}
use Rattle.attester.specs.Record.{Child, flag, child_octets, node_record, Labels}
use Rattle.attester.specs.Tree.{leaf, tree_within, tree}
use Rattle.attester.specs.Label.{digest}
use Rattle.attester.specs.Label as labels
use Rattle.attester.specs.Listing.{Listing}
use Rattle.attester.specs.Path.{foot, foot_entry, foot_left, foot_right}
use Rattle.attester.specs.Verdict.{Judgement, present, absent, side, root_record, judge}
use Rattle.attester.specs.Verdict as judgement
use Rattle.attester.specs.Verify.{judged, verify}
use Rattle.attester.specs.Search.{search, listed}
use Rattle.attester.specs.Attestation.{attestation}
use Rattle.attester.proofs.AdmissionLaws.{listing_admitted}
use Rattle.attester.proofs.RecordLaws.{record_length}
use Rattle.attester.proofs.VerdictLaws.{judge_passed}
use Rattle.attester.proofs.AttestationLaws.{form_of_attestation}
use Rattle.attester.proofs.Demand2 as theory
use Rattle.codes.specs.Code.{within, all, digit, letter, hyphen, character, apart, is_code, key_of}
use Rattle.codes.specs.Count as count
use Rattle.codes.specs.Text as text
use Rattle.codes.specs.Read.{answer, keys}
use Rattle.tree.specs.Edition.{width, most}
use Rattle.attestation.specs.Attest.{issue_answer, attest_answer}
use Rattle.attestation.specs.Verify.{Verified, verdict_of}
use Rattle.examples.specs.F.{code_1_1, code_2_7, code_3_4, code_3_40, code_A_2, F}
use Rattle.examples.specs.Box.{over, lone}
use Rattle.examples.specs.Values.{lone_record}
use Rattle.examples.proofs.Box.{F_listing}
use Rattle.examples.proofs.Values.{values}
use Rattle.sagebutton.specs.WrongPrograms.{ConstantHash, Issued, RefusesAll, AbsentToAll, Always6, WritesNoKeys, AnotherCount, Collision, foot_of, foot_only, FootSuffices, FootVerifies, WrongProgramsRejected}
use Rattle.sagebutton.proofs.Demand2.{demand_2}
use Rattle.sagebutton.proofs.WrongExtractors.{extracts_nothing, refuses_two, leaves_buffers, does_nothing, shows_one_pair}

-- a key
abbrev low : Octets
low = replicate 20 0

-- The hash: of no octets it begins with 0xe3, of "abc" with 0xba

hashed : (msg h d : Octets) {r : Answer} → length msg ≤ 65535 → Hashed msg (replicate 32 0) r h → sha256 msg ≡ d → h ≡ d ++ drop (length d) (replicate 32 0)
unfolding hash_answer written
hashed msg h d {r} few p e =
    let done : r ≡ Done (length msg) = p.answered ∙ rw (le-ltb 65535 (length msg) few) refl in
    rw (done, e) at p.left

constant_hash : (h : Octets) → ConstantHash h → ⊥
unfolding octets
constant_hash h c =
    let none_is = hashed [] h _ (omega arith) (c [] (replicate 32 0) (omega arith) refl).1 examples.no_octets in
    let abc_is = hashed (octets 3 0x616263) h _ (omega arith) (c (octets 3 0x616263) (replicate 32 0) (omega arith) refl).1 examples.abc in
    let z : ◌≡◌ {A = ℕ} 0xe3 0xba = ap (λ s. get_or s 0 0) (sym none_is ∙ abc_is) in
    omega arith

-- The verifiers: in the list of one key, that key is present

one : List Octets
one = low ∷ []

one_listing : Listing width most one
unfolding one
one_listing = record {
  some_entry = omega arith;
  few = omega arith;
  sized = (refl, tt);
  ascending = (tt, tt);
}

one_listed : listed low one ≡ true
unfolding one listed same key order
one_listed = refl

module _ (profile : ℕ) (k : known profile ≡ true) where
  one_issued : Issued profile one low (digest (label profile) one) (attestation (label profile) one low)
  one_issued = record { listing = one_listing; key_size = refl; digest_is = refl; is = refl }

  one_present : {v : Verdict} → Verified profile low (digest (label profile) one) (attestation (label profile) one low) v → v ≡ verdict.Present
  unfolding verdict_of
  one_present e =
      e.answered
      ∙ in_known verdict.Refused profile (verdict_of (verify (label profile) width low (digest (label profile) one) (attestation (label profile) one low))) k
      ∙ rw (theory.demand_2 (label profile) width most (label_length profile) (omega arith) one low one_listing refl, one_listed)

  refuses_all : RefusesAll profile → ⊥
  refuses_all h =
      let v = h one low (digest (label profile) one) (attestation (label profile) one low) one_issued in
      let e : verdict.Refused v.0 v.1 ≡ verdict.Present = one_present v.2 in
      let z : ◌≡◌ {A = ℕ} 0 1 = cc in
      omega arith

  absent_to_all : AbsentToAll profile → ⊥
  absent_to_all h =
      let e : verdict.Absent ≡ verdict.Present = one_present (h one low (digest (label profile) one) (attestation (label profile) one low) one_issued) in
      let z : ◌≡◌ {A = ℕ} 0 1 = cc in
      omega arith

  -- The issuer: there is room

  always_6 : Always6 profile → ⊥
  unfolding attest_answer issue_answer
  always_6 h =
      let out : Octets = replicate 586 0 in
      let r : Refused too_short 0 ≡ attest_answer (label profile) width most low (flatten one) (length out) =
      (h one low out one_listing refl (omega arith)).1.answered ∙ in_known Refused profile (attest_answer (label profile) width most low (flatten one) (length out)) k in
      let short : length (attestation (label profile) one low) ≤ 586 =
      (demand_2.longest_issued profile).most (attestation (label profile) one low) record { list = one; listing = one_listing; key = low; key_size = refl; is = refl } in
      let a = listing_admitted width most one (omega arith) one_listing in
      let f = le-leb (length (attestation (label profile) one low)) (length out) (omega arith) in
      let e : Refused too_short 0 ≡ Done (length (attestation (label profile) one low)) = r ∙ rw (a, f) in
      let z : ◌≡◌ {A = ℕ} 0 1 = cc in
      omega arith

-- The list readers: the text of one code

-- the lines `codes`, `1` and `1`
abbrev text_1 : Octets
text_1 = 0x63 ∷ 0x6F ∷ 0x64 ∷ 0x65 ∷ 0x73 ∷ 0x0A ∷ 0x31 ∷ 0x0A ∷ 0x31 ∷ 0x0A ∷ []

abbrev key_1 : Octets
key_1 = key_of (0x31 ∷ [])

text_1_accepted : text.reading 20 text_1 ≡ text.accepted (key_1 ∷ [])
unfolding text.reading text.opening text.second_line text.ended text.before_LF text.line text.rest text.counted text.codes text.fault text.above text.more order same within all digit letter hyphen character apart is_code key_of count.is_count count.number count.number_after
text_1_accepted = refl

-- what must be written into a buffer of zeros is not zeros
key_1_shows : low ≡ flatten (key_1 ∷ []) ++ drop (length (flatten (key_1 ∷ []))) low → ⊥
unfolding key_of flatten
key_1_shows e = let z : ◌≡◌ {A = ℕ} 0 0x31 = ap (λ s. get_or s 0 0) e in omega arith

writes_no_keys : WritesNoKeys → ⊥
unfolding written keys
writes_no_keys h = key_1_shows (rw text_1_accepted at (h text_1 low (key_1 ∷ []) text_1_accepted).1.left)

another_count : AnotherCount → ⊥
unfolding answer
another_count h =
    let r = h text_1 low (key_1 ∷ []) text_1_accepted in
    let e : Done r.0 ≡ Done 1 = rw text_1_accepted at r.3.answered in
    r.2 cc

-- The verifier that ignores the levels above: in F, the record of 1-1 is not the root's

flag_small : (l r : Child) → flag l r < 256
unfolding flag
flag_small none none = omega arith
flag_small none (some r) = omega arith
flag_small (some l) none = omega arith
flag_small (some l) (some r) = omega arith

-- octets and labels of octets make a record of octets
record_octets : (l : Child) (e : Octets) (r : Child) → AreOctets (child_octets l) → AreOctets e → AreOctets (child_octets r) → AreOctets (node_record l e r)
unfolding node_record
record_octets l e r f g h = (flag_small l r, octets_append (child_octets l) (e ++ child_octets r) f (octets_append e (child_octets r) g h))

-- the key of a code of three characters
code_octets : (a b c : ℕ) → a < 256 → b < 256 → c < 256 → AreOctets (a ∷ b ∷ c ∷ replicate 17 0)
code_octets a b c f g h = (f, (g, (h, octets_zeros 17)))

module _ (H : Octets → Octets) where
  -- the records of 1-1 and of the root, 3-4
  abbrev foot_record : Octets
  foot_record = lone_record (key_of code_1_1)

  abbrev left : Child
  left = labels.label H (over code_2_7 (lone code_1_1) leaf)

  abbrev right : Child
  right = labels.label H (over code_A_2 (lone code_3_40) leaf)

  abbrev top_record : Octets
  top_record = node_record left (key_of code_3_4) right

  foot_path : foot_of (search H (key_of code_1_1) (tree F)) ≡ foot (key_of code_1_1) none none
  unfolding tree tree_within search side key key_of order labels.label foot_entry foot_left foot_right
  foot_path = refl

  F_digest : digest H F ≡ H top_record
  unfolding tree tree_within labels.label digest child_octets
  F_digest = refl

  F_lists : listed (key_of code_1_1) F ≡ true
  unfolding listed same key key_of order
  F_lists = refl

  key_sized : length (key_of code_1_1) ≡ 20
  unfolding key_of
  key_sized = refl

  foot_only_judges : Labels H
      → foot_only H (key_of code_1_1) (digest H F) (attestation H F (key_of code_1_1)) ≡ judge H (key_of code_1_1) (digest H F) (foot (key_of code_1_1) none none)
  unfolding foot_only judged
  foot_only_judges H_length =
      rw (form_of_attestation H H_length width most F (key_of code_1_1) F_listing (omega arith), foot_path)

  one_label : Labels H → FootSuffices H → H foot_record ≡ digest H F
  unfolding root_record
  one_label H_length h =
      let e : judge H (key_of code_1_1) (digest H F) (foot (key_of code_1_1) none none) ≡ present =
      sym (foot_only_judges H_length) ∙ (h F (key_of code_1_1) F_listing key_sized ∙ rw F_lists) in
      (judge_passed H (key_of code_1_1) (digest H F) (foot (key_of code_1_1) none none) (rw e tt)).hashes

  -- octet 0 is 0 in one record and 3 in the other
  records_differ : foot_record ≡ top_record → ⊥
  unfolding node_record flag labels.label
  records_differ e = let z : ◌≡◌ {A = ℕ} 0 3 = ap (λ s. get_or s 0 0) e in omega arith

  foot_suffices_collides : Labels H → ((r : Octets) → AreOctets (H r)) → FootSuffices H → Collision H
  unfolding child_octets labels.label key_of
  foot_suffices_collides H_length H_octets h = record {
    first = foot_record;
    second = top_record;
    first_size = record_length 20 none (key_of code_1_1) none tt refl tt;
    second_size = record_length 20 left (key_of code_3_4) right (H_length _) refl (H_length _);
    first_octets = record_octets none (key_of code_1_1) none (octets_zeros 32) (code_octets 0x31 0x2D 0x31 (omega arith) (omega arith) (omega arith)) (octets_zeros 32);
    second_octets = record_octets left (key_of code_3_4) right (H_octets _) (code_octets 0x33 0x2D 0x34 (omega arith) (omega arith) (omega arith)) (H_octets _);
    differ = records_differ;
    same_label = one_label H_length h ∙ F_digest;
  }

-- a verdict tells its judgement
judgement_of : Verdict → Judgement
judgement_of verdict.Present = present
judgement_of verdict.Absent = absent
judgement_of (verdict.Refused m p) = judgement.refused m p

judgement_of_verdict : (v : Judgement) → judgement_of (verdict_of v) ≡ v
unfolding verdict_of judgement_of
judgement_of_verdict present = refl
judgement_of_verdict absent = refl
judgement_of_verdict (judgement.refused m p) = refl

foot_verifies_suffices : (profile : ℕ) → known profile ≡ true → FootVerifies profile → FootSuffices (label profile)
foot_verifies_suffices profile k h list x l n =
    let d = digest (label profile) list in
    let a = attestation (label profile) list x in
    let v = h list x d a record { listing = l; key_size = n; digest_is = refl; is = refl } in
    sym (judgement_of_verdict (foot_only (label profile) x d a))
    ∙ (ap judgement_of (v.answered ∙ in_known verdict.Refused profile (verdict_of (verify (label profile) width x d a)) k) ∙ judgement_of_verdict (verify (label profile) width x d a))
    ∙ theory.demand_2 (label profile) width most (label_length profile) (omega arith) list x l n

-- in each profile the two labels differ in their first octet
labels_differ : (profile : ℕ) → known profile ≡ true → label profile (lone_record (key_of code_1_1)) ≡ digest (label profile) F → ⊥
unfolding octets
labels_differ profile k = elim (known_numbers profile k) [
  | inl e ↦ subst⁻¹ (λ (p : ℕ). label p (lone_record (key_of code_1_1)) ≡ digest (label p) F → ⊥) e in_full
  | inr e ↦ subst⁻¹ (λ (p : ℕ). label p (lone_record (key_of code_1_1)) ≡ digest (label p) F → ⊥) e in_drill
]
  where
    in_full : label full (lone_record (key_of code_1_1)) ≡ digest (label full) F → ⊥
    in_full e =
        let z : ◌≡◌ {A = ℕ} 0x55 0x19 = ap (λ s. get_or s 0 0) (sym (label_full (lone_record (key_of code_1_1)) ∙ values.lone_1_1) ∙ e ∙ values.F_full) in
        omega arith

    in_drill : label drill (lone_record (key_of code_1_1)) ≡ digest (label drill) F → ⊥
    in_drill e =
        let z : ◌≡◌ {A = ℕ} 0x55 0xb8 = ap (λ s. get_or s 0 0) (sym (label_drill (lone_record (key_of code_1_1)) ∙ ap short values.lone_1_1) ∙ e ∙ values.F_drill) in
        omega arith

pub wrong_programs_rejected : WrongProgramsRejected
wrong_programs_rejected = record {
  constant_hash = constant_hash;
  refuses_all = refuses_all;
  absent_to_all = absent_to_all;
  always_6 = always_6;
  writes_no_keys = writes_no_keys;
  another_count = another_count;
  foot_verifies = λ profile k h. labels_differ profile k (one_label (label profile) (label_length profile) (foot_verifies_suffices profile k h));
  foot_suffices_collides = foot_suffices_collides;
  extracts_nothing = extracts_nothing;
  refuses_two = refuses_two;
  leaves_buffers = leaves_buffers;
  does_nothing = does_nothing;
  shows_one_pair = shows_one_pair;
}
