-- A promise that gives the answer and the buffer by definitions of the inputs is met by those alone.
use mathlib.Core.Path.{◌≡◌, refl, ap, ◌∙◌}
use Prim.Native.Nat.{ℕ}
use lib.ListN.{length}
use Rattle.answer.specs.Answer.{Refused, written, packed, verdict_packed}
use Rattle.answer.specs.Verdict as verdict
use Rattle.octets.specs.Order.{Octets}
use Rattle.sha256.specs.Fips180.{sha256}
use Rattle.sha256.specs.Hash.{Hashed, hash_answer}
use Rattle.codes.specs.Text.{reading}
use Rattle.codes.specs.Read.{Read, answer, keys}
use Rattle.profile.specs.Profile.{label, in_profile}
use Rattle.tree.specs.Digest.{Digested, digest_answer, digest_octets}
use Rattle.tree.specs.Edition.{width, most}
use Rattle.attester.specs.Verify.{verify}
use Rattle.attestation.specs.Attest.{Attested, attest_answer, attest_octets}
use Rattle.attestation.specs.Verify.{Verified, verdict_of}
use Rattle.attester.specs.Extract.{extract}
use Rattle.extractor.specs.Extract.{Extracted, extraction_answer, first_record, second_record}
use Rattle.contradiction.specs.Drill.{Drilled, drilling, drill_answer, first_buffer, second_buffer, drill_packed}
use Rattle.sagebutton.specs.OneOutcome.{OneOutcome, Numbered, LendsNothing, LendsTwo, EveryInputHasOneOutcome}

hash_has_one_outcome : (msg out : Octets) → OneOutcome (Hashed msg out)
hash_has_one_outcome msg out = record {
  answer = hash_answer msg (length out);
  buffer = written (hash_answer msg (length out)) (sha256 msg) out;
  permitted = record { answered = refl; left = refl };
  only = λ r out' m. (m.answered, cc);
}

read_list_has_one_outcome : (text out : Octets) → OneOutcome (Read text out)
read_list_has_one_outcome text out = record {
  answer = answer (reading (length out) text);
  buffer = written (answer (reading (length out) text)) (keys (reading (length out) text)) out;
  permitted = record { answered = refl; left = refl };
  only = λ r out' m. (m.answered, cc);
}

digest_has_one_outcome : (profile : ℕ) (list out : Octets) → OneOutcome (Digested profile list out)
digest_has_one_outcome profile list out =
    let a = in_profile Refused profile (digest_answer width most list (length out)) in
    record {
      answer = a;
      buffer = written a (digest_octets (label profile) width most list) out;
      permitted = record { answered = refl; left = refl };
      only = λ r out' m. (m.answered, cc);
    }

attest_has_one_outcome : (profile : ℕ) (x list out : Octets) → OneOutcome (Attested profile x list out)
attest_has_one_outcome profile x list out =
    let a = in_profile Refused profile (attest_answer (label profile) width most x list (length out)) in
    record {
      answer = a;
      buffer = written a (attest_octets (label profile) width most x list) out;
      permitted = record { answered = refl; left = refl };
      only = λ r out' m. (m.answered, cc);
    }

verify_has_one_outcome : (profile : ℕ) (x d a : Octets) → OneOutcome (LendsNothing (Verified profile x d a))
verify_has_one_outcome profile x d a = record {
  answer = in_profile verdict.Refused profile (verdict_of (verify (label profile) width x d a));
  buffer = tt;
  permitted = record { answered = refl };
  only = λ v nothing m. (m.answered, refl);
}

extract_has_one_outcome : (profile : ℕ) (x d a b out₁ out₂ : Octets) → OneOutcome (LendsTwo (Extracted profile x d a b out₁ out₂))
extract_has_one_outcome profile x d a b out₁ out₂ =
    let e = extract (label profile) width x d a b (length out₁) (length out₂) in
    let s = in_profile Refused profile (extraction_answer e) in
    record {
      answer = s;
      buffer = (written s (first_record e) out₁, written s (second_record e) out₂);
      permitted = record { answered = refl; first_left = refl; second_left = refl };
      only = λ r buffers m.
          let first : buffers.0 ≡ written s (first_record e) out₁ = rw m.answered at m.first_left in
          let second : buffers.1 ≡ written s (second_record e) out₂ = rw m.answered at m.second_left in
          (m.answered, λ i. (first i, second i));
    }

drill_has_one_outcome : (text : Octets) (bound : ℕ) (out₁ out₂ : Octets) → OneOutcome (LendsTwo (Drilled text bound out₁ out₂))
drill_has_one_outcome text bound out₁ out₂ =
    let d = drilling text bound (length out₁) (length out₂) in
    record {
      answer = drill_answer d;
      buffer = (first_buffer d out₁, second_buffer d out₂);
      permitted = record { answered = refl; first_left = refl; second_left = refl };
      only = λ r buffers m. (m.answered, λ i. (m.first_left i, m.second_left i));
    }

-- whatever promise has one outcome, its export has
exported : {A B : Type 0} (pack : A → ℕ) (Meets : A → B → Type 0) → OneOutcome Meets → OneOutcome (Numbered pack Meets)
exported pack Meets o = record {
  answer = pack o.answer;
  buffer = o.buffer;
  permitted = record { told = o.answer; meets = o.permitted; is = refl };
  only = λ r b p. let h = o.only p.told b p.meets in (p.is ∙ ap pack h.0, h.1);
}

pub every_input_has_one_outcome : EveryInputHasOneOutcome
every_input_has_one_outcome = record {
  hash = hash_has_one_outcome;
  read_list = read_list_has_one_outcome;
  digest = digest_has_one_outcome;
  attest = attest_has_one_outcome;
  verify = verify_has_one_outcome;
  extract = extract_has_one_outcome;
  drill = drill_has_one_outcome;
  exported_hash = λ msg out. exported packed (Hashed msg out) (hash_has_one_outcome msg out);
  exported_read_list = λ text out. exported packed (Read text out) (read_list_has_one_outcome text out);
  exported_digest = λ profile list out. exported packed (Digested profile list out) (digest_has_one_outcome profile list out);
  exported_attest = λ profile x list out. exported packed (Attested profile x list out) (attest_has_one_outcome profile x list out);
  exported_verify = λ profile x d a. exported verdict_packed (LendsNothing (Verified profile x d a)) (verify_has_one_outcome profile x d a);
  exported_extract =
      λ profile x d a b out₁ out₂.
      exported packed (LendsTwo (Extracted profile x d a b out₁ out₂)) (extract_has_one_outcome profile x d a b out₁ out₂);
  exported_drill =
      λ text bound out₁ out₂.
      exported drill_packed (LendsTwo (Drilled text bound out₁ out₂)) (drill_has_one_outcome text bound out₁ out₂);
}
