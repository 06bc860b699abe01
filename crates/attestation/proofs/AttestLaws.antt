-- The ends of `attest`. Where a list is admitted, its entries are all of its octets, so the path in those octets is the
-- path in the list's tree.
use mathlib.Core.Path.{◌≡◌, refl, sym, ap, ◌∙◌}
use mathlib.Core.Bool.{true, false, cond}
use mathlib.Core.List.{List}
use Prim.Native.Nat.{ℕ, ◌+◌, ◌*◌, ◌≤◌, ◌<◌}
use native.Mathlib.Omega.{arith}
use borrow.Author.Tests.{eq-eqb, ne_eqb, le-leb, lt-leb}
use lib.Dec.{leb}
use lib.ListN.{length}
use Rattle.answer.specs.Answer.{Answer, Done, Refused, written}
use Rattle.answer.specs.Refusals.{size, too_short, unknown_profile}
use Rattle.octets.specs.Order.{Octets}
use Rattle.octets.specs.Put.{Wrote}
use Rattle.octets.proofs.PutLaws.{put_front}
use Rattle.profile.specs.Profile.{known, label, in_profile}
use Rattle.profile.proofs.ProfileLaws.{label_length, in_known, in_unknown}
use Rattle.attester.specs.Admission.{Admission, admitted, refused, admit}
use Rattle.attester.specs.Tree.{tree}
use Rattle.attester.specs.Search.{search}
use Rattle.attester.specs.Attestation.{render, attestation}
use Rattle.attester.proofs.EntryLaws.{flatten_length}
use Rattle.attester.proofs.LengthLaws.{levels_length}
use Rattle.attester.proofs.AdmissionLaws.{Admitted, admit_admitted}
use Rattle.tree.specs.Admitted.{answer_of, entries_of}
use Rattle.tree.specs.Edition.{width, most}
use Rattle.attestation.specs.Parts.{Keyed, path_in}
use Rattle.attestation.specs.Attest.{issue_answer, attest_answer, attest_octets, Attested}
use Rattle.attestation.proofs.IssueLaws.{render_room}

pub attested_unknown : (profile : ℕ) (x keys out : Octets) → known profile ≡ false → Attested profile x keys out (Refused unknown_profile 0) out
unfolding written
attested_unknown profile x keys out k =
    record { answered = sym (in_unknown Refused profile (attest_answer (label profile) width most x keys (length out)) k); left = refl }

-- the octets of an accepted list are keys and nothing else
admitted_keyed : (keys : Octets) {es : List Octets} → Admitted width most keys es → Keyed keys
admitted_keyed keys {es} a =
    let n : length keys ≡ length es * 20 = ap length (sym a.whole) ∙ flatten_length width es a.listing.sized in
    record {
      some_key = omega (arith, n, a.listing.some_entry);
      whole = omega (arith, n);
      few = omega (arith, n, a.listing.few);
    }

-- what is known of an accepted list and a key x, with this much room, by the label function H
pub record Accepted (H : Octets → Octets) (x keys : Octets) (room : ℕ) : Type 0 where
  pub keyed : Keyed keys
  pub octets : attest_octets H width most x keys ≡ render (path_in H x keys)
  pub answer : issue_answer H x room (admit width most keys)
      ≡ cond (leb (length (render (path_in H x keys))) room) (Done (length (render (path_in H x keys)))) (Refused too_short 0)

pub accepted : (H : Octets → Octets) (x keys out : Octets) {r : Answer} → r ≡ answer_of (admit width most keys) → {n : ℕ} → r ≡ Done n
    → Accepted H x keys (length out)
unfolding attest_octets attestation issue_answer path_in
accepted H x keys out told {n} e = go (admit width most keys) refl (sym told ∙ e)
  where
    go : (a : Admission) → admit width most keys ≡ a → answer_of a ≡ Done n → Accepted H x keys (length out)
    go (admitted es) h d =
        let a = admit_admitted width most keys es h in
        let same : attestation H es x ≡ render (path_in H x keys) = ap (λ (q : List Octets). render (search H x (tree q))) a.parts in
        record {
          keyed = admitted_keyed keys a;
          octets = ap (λ (q : Admission). attestation H (entries_of q) x) h ∙ same;
          answer = ap (issue_answer H x (length out)) h ∙ rw same;
        }
    go (refused m p) h d = let z : ◌≡◌ {A = ℕ} 0 1 = cc in absurd (omega arith)

module _ (profile : ℕ) (k : known profile ≡ true) (x keys out : Octets) where
  -- in a known profile the answer is document 01's
  answers : {r : Answer} → r ≡ attest_answer (label profile) width most x keys (length out)
      → r ≡ in_profile Refused profile (attest_answer (label profile) width most x keys (length out))
  answers e = e ∙ sym (in_known Refused profile (attest_answer (label profile) width most x keys (length out)) k)

  pub attested_size : (length x ≡ 20 → ⊥) → Attested profile x keys out (Refused size 0) out
  unfolding attest_answer written
  attested_size h = record { answered = answers (rw (ne_eqb (length x) 20 h)); left = refl }

  module _ {r : Answer} (told : r ≡ answer_of (admit width most keys)) (sized : length x ≡ 20) where
    issues : attest_answer (label profile) width most x keys (length out) ≡ issue_answer (label profile) x (length out) (admit width most keys)
    unfolding attest_answer
    issues = rw (eq-eqb (length x) 20 sized)

    pub attested_refused : {m p : ℕ} → r ≡ Refused m p → Attested profile x keys out r out
    unfolding written issue_answer
    attested_refused {m} {p} e = record { answered = answers (go (admit width most keys) refl told ∙ sym issues); left = rw e }
      where
        go : (a : Admission) → admit width most keys ≡ a → r ≡ answer_of a → r ≡ issue_answer (label profile) x (length out) (admit width most keys)
        go (admitted es) h d = let z : ◌≡◌ {A = ℕ} 0 1 = cc in absurd (omega arith)
        go (refused m' p') h d = rw h d

    module _ {n l : ℕ} (e : r ≡ Done n) (is : l ≡ levels_length width (path_in (label profile) x keys)) where
      list : Accepted (label profile) x keys (length out)
      list = accepted (label profile) x keys out told e

      length_is : length (render (path_in (label profile) x keys)) ≡ 3 + l
      length_is = render_room x keys list.keyed (label profile) (label_length profile) ∙ ap (λ (q : ℕ). 3 + q) (sym is)

      pub attested_short : length out < 3 + l → Attested profile x keys out (Refused too_short 0) out
      unfolding written
      attested_short h =
          record {
            answered = answers (sym (issues ∙ list.answer ∙ rw (length_is, lt-leb (3 + l) (length out) h)));
            left = refl;
          }

      pub attested_done : {out' : Octets} {end : ℕ} → 3 + l ≤ length out → Wrote out 0 (render (path_in (label profile) x keys)) out' end
          → Attested profile x keys out (Done (3 + l)) out'
      unfolding written
      attested_done h w =
          record {
            answered = answers (sym (issues ∙ list.answer ∙ rw (length_is, le-leb (3 + l) (length out) h)));
            left = w.left ∙ put_front out (render (path_in (label profile) x keys)) ∙ rw list.octets;
          }
