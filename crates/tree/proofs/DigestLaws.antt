-- The ends of `digest`. Where a list is admitted, its entries are all of its
-- octets, so the label of those octets is the digest.
use mathlib.Core.Path.{◌≡◌, refl, sym, ap, ◌∙◌}
use mathlib.Core.Bool.{true, false}
use Prim.Native.Nat.{ℕ}
use native.Mathlib.Omega.{arith}
use borrow.Author.Tests.{eq-eqb, ne_eqb}
use lib.ListN.{length}
use Rattle.answer.specs.Answer.{Answer, Done, Refused, written}
use Rattle.answer.specs.Refusals.{size, unknown_profile}
use Rattle.octets.specs.Order.{Octets}
use Rattle.answer.proofs.WrittenLaws.{written_whole}
use Rattle.profile.specs.Profile.{known, label, in_profile}
use Rattle.profile.proofs.ProfileLaws.{in_known, in_unknown, label_length}
use Rattle.attester.specs.Admission.{Admission, admitted, refused, admit}
use Rattle.attester.specs.Label.{digest}
use Rattle.attester.proofs.AdmissionLaws.{admit_admitted}
use Rattle.attester.proofs.LabelLaws.{digest_length}
use Rattle.tree.specs.Admitted.{answer_of, entries_of}
use Rattle.tree.specs.Digest.{digest_answer, digest_octets, Digested}
use Rattle.tree.specs.Edition.{width, most}
use Rattle.tree.specs.Labels.{label_of}

pub digested_unknown : (profile : ℕ) (keys out : Octets) → known profile ≡ false → Digested profile keys out (Refused unknown_profile 0) out
unfolding written
digested_unknown profile keys out k = record { answered = sym (in_unknown Refused profile (digest_answer width most keys (length out)) k); left = refl }

module _ (profile : ℕ) (k : known profile ≡ true) (keys out : Octets) where
  -- in a known profile the answer is document 01's
  told : {r : Answer} → r ≡ digest_answer width most keys (length out) → r ≡ in_profile Refused profile (digest_answer width most keys (length out))
  told e = e ∙ sym (in_known Refused profile (digest_answer width most keys (length out)) k)

  pub digested_size : (length out ≡ 32 → ⊥) → Digested profile keys out (Refused size 0) out
  unfolding digest_answer written
  digested_size h = record { answered = told (rw (ne_eqb (length out) 32 h)); left = refl }

  module _ (r : Answer) (room : length out ≡ 32) (is : r ≡ answer_of (admit width most keys)) where
    answered : r ≡ in_profile Refused profile (digest_answer width most keys (length out))
    unfolding digest_answer
    answered = told (rw (eq-eqb (length out) 32 room) is)

    pub digested_refused : {m p : ℕ} → r ≡ Refused m p → Digested profile keys out r out
    unfolding written
    digested_refused e = record { answered = answered; left = rw e }

    -- the label of the octets is the digest of the entries that were admitted
    label_admitted : (n : ℕ) → r ≡ Done n → label_of (label profile) width keys ≡ digest_octets (label profile) width most keys
    unfolding label_of digest_octets
    label_admitted n e = go (admit width most keys) refl (sym is ∙ e)
      where
        go : (a : Admission) → admit width most keys ≡ a → answer_of a ≡ Done n → label_of (label profile) width keys ≡ digest (label profile) (entries_of a)
        go (admitted es) h d = ap (digest (label profile)) (sym (admit_admitted width most keys es h).parts)
        go (refused m p) h d = let z : ◌≡◌ {A = ℕ} 0 1 = cc in absurd (omega arith)

    pub digested_done : {n : ℕ} {d out' : Octets} → r ≡ Done n → d ≡ label_of (label profile) width keys → out' ≡ d → Digested profile keys out (Done n) out'
    unfolding digest_octets
    digested_done {n} {d} e l w =
        let o : d ≡ digest_octets (label profile) width most keys = l ∙ label_admitted n e in
        let fits : length (digest_octets (label profile) width most keys) ≡ length out =
        digest_length (label profile) (label_length profile) (entries_of (admit width most keys)) ∙ sym room in
        record { answered = sym e ∙ answered; left = w ∙ o ∙ sym (written_whole n _ out fits) }
