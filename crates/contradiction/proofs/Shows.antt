-- What the committee is shown: the search is right, and where it finds a number the drill comes to that number and to the pair of
-- records, which fill the two buffers. What an answer tells is read off from what the drill can come to.
use mathlib.Core.Path.{◌≡◌, refl, sym, subst, ◌∙◌}
use mathlib.Core.List.{[], ◌∷◌}
use mathlib.Core.Logic.{inl, inr}
use mathlib.Core.Option.{some}
use Prim.Native.Nat.{ℕ, ◌*◌, ◌^◌, ◌<◌}
use native.Mathlib.Omega.{arith}
use lib.ListN.{length}
use Rattle.answer.proofs.WrittenLaws.{written_whole}
use Rattle.octets.specs.Order.{Octets}
use Rattle.attester.specs.Extract.{extracted}
use Rattle.codes.specs.Text.{accepted, reading}
use Rattle.tree.specs.Edition.{width, most}
use Rattle.extractor.specs.Extract.{extraction_answer, first_record, second_record}
use Rattle.contradiction.specs.Outcome.{Outcome, Found, None, Refused}
use Rattle.contradiction.specs.Trial.{number_key, first_alike}
use Rattle.contradiction.specs.Drill.{Drilling, number, tried, drilled, drilling, drill_answer, first_buffer, second_buffer, CarriedOut, Drilled}
use Rattle.contradiction.specs.Shows.{Within, FoundIsShown, FoundBy, FoundNone, RefusedFor, AnswersTell, Shows}
use Rattle.contradiction.specs.Shows as for
use Rattle.contradiction.proofs.NumberLaws.{key_length}
use Rattle.contradiction.proofs.ReadLaws.{read_sized, no_code_is_a_number}
use Rattle.contradiction.proofs.FirstLaws.{first_is_first}
use Rattle.contradiction.proofs.ShownLaws.{one_record, one_record_length, judged_absent, judged_present, differ, two_agree, pair, handed_shows}
use Rattle.contradiction.proofs.ComesLaws.{Comes, wrong_size, wrong_text, more_than_one, nothing, shown, comes}

drill_comes : (s k : Octets) (bound n : ℕ) → reading (most * width) s ≡ accepted (k ∷ []) → first_alike k bound 0 ≡ some n
    → drilling s bound 85 85 ≡ tried k (some n)
unfolding drilling drilled
drill_comes s k bound n e f = rw (e, f)

found_is_shown : FoundIsShown
unfolding tried drill_answer first_buffer second_buffer extraction_answer first_record second_record
found_is_shown s k e bound n small f out₁ out₂ h₁ h₂ r out₁' out₂' d =
    let right = first_is_first k bound in
    let other = right.found_unlisted n f in
    let like = right.found_alike n f in
    let z = read_sized s k e in
    let is : drilling s bound (length out₁) (length out₂) ≡ number n (extracted (pair k n)) =
    rw (h₁, h₂, drill_comes s k bound n e f, handed_shows k z n other like) in
    let e₁ : out₁' ≡ one_record k = d.first_left ∙ rw is (written_whole 0 (one_record k) out₁ (one_record_length k z ∙ sym h₁)) in
    let e₂ : out₂' ≡ one_record (number_key n) =
    d.second_left ∙ rw is (written_whole 0 (one_record (number_key n)) out₂ (one_record_length (number_key n) (key_length n) ∙ sym h₂)) in (
      d.answered ∙ rw is,
      below (right.found_within small n f),
      rw (e₁, e₂) record {
        first_is = refl;
        second_is = refl;
        differ = differ k z n other like;
        two_agree = two_agree k z n other like;
        judged_absent = judged_absent k z n other like;
        judged_present = judged_present k z n other like;
      },
    )
  where
    -- no number was skipped
    below : Within k bound n → n < bound
    below (inl h) = h
    below (inr h) = let i = h.1 in absurd (no_code_is_a_number s k e i.which (omega (arith, i.below)) i.is_listed)

module _ (s : Octets) (bound : ℕ) (out₁ out₂ out₁' out₂' : Octets) where
  -- what each answer tells
  abbrev Tells : Outcome → Type 0
  Tells (Found n) = bound < 2 ^ 32 → FoundBy s bound n out₁' out₂'
  Tells None = FoundNone s bound out₁ out₂ out₁' out₂'
  Tells (Refused m p) = RefusedFor s out₁ out₂ m p

  module _ (r : Outcome) (d : Drilled s bound out₁ out₂ r out₁' out₂') where
    found_by : (k : Octets) (n : ℕ) → length out₁ ≡ 85 → length out₂ ≡ 85 → reading (most * width) s ≡ accepted (k ∷ []) → first_alike k bound 0 ≡ some n
        → bound < 2 ^ 32 → FoundBy s bound n out₁' out₂'
    found_by k n h₁ h₂ h f small =
        let t = found_is_shown s k h bound n small f out₁ out₂ h₁ h₂ r out₁' out₂' d in
        record { listed = k; was_read = h; is_first = f; within = t.1; shown = t.2 }

    told : {g : Drilling} → Comes s bound (length out₁) (length out₂) g → CarriedOut g out₁ out₂ r out₁' out₂' → Tells (drill_answer g)
    unfolding drill_answer first_buffer second_buffer
    told (wrong_size h) c = for.wrong_size h refl refl
    told (wrong_text h) c = for.wrong_text h
    told (more_than_one ks h l) c = for.more_than_one ks h l refl refl
    told (nothing k h o) c = record { listed = k; was_read = h; is_none = o; first_stays = c.first_left; second_stays = c.second_left }
    told (shown k n h₁ h₂ h f) c = found_by k n h₁ h₂ h f

    tells : Tells r
    tells = subst Tells (sym d.answered) (told (comes s bound (length out₁) (length out₂)) d)

  answers_tell : AnswersTell s bound out₁ out₂ out₁' out₂'
  answers_tell = record {
    found_tells = λ small n d. tells (Found n) d small;
    none_tells = tells None;
    refused_tells = λ m p. tells (Refused m p);
  }

pub shows : Shows
shows = record {
  first_is_first = first_is_first;
  no_code_is_a_number = no_code_is_a_number;
  found_is_shown = found_is_shown;
  answers_tell = answers_tell;
}
