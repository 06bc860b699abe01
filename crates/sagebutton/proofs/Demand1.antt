-- Demand 1 follows from the promises' definitions: a refusal's buffer is the buffer, and a text's keys are a listing, so they stand
-- in the buffer one after another.
use mathlib.Core.Path.{◌≡◌, sym, ◌∙◌}
use mathlib.Core.Bool.{true}
use mathlib.Core.List.{List, [], ◌∷◌, ◌++◌, map, flatten}
use mathlib.Core.Option.{Option, none, some}
use Prim.Native.Nat.{ℕ, ◌*◌}
use native.Mathlib.Omega.{arith}
use lib.ListN.{length, take, drop, length-map}
use lib.Seq.{take_at, take_all}
use Rattle.answer.specs.Answer.{Done, written}
use Rattle.octets.specs.Order.{Octets, order}
use Rattle.octets.proofs.OrderLaws.{is_less_true}
use Rattle.attester.specs.Entry.{key, entries}
use Rattle.attester.specs.Listing.{Below, Each, Ascending, Listing}
use Rattle.attester.proofs.ListingLaws.{ascending_cons}
use Rattle.attester.proofs.EntryLaws.{flatten_length, entries_front, entries_flatten}
use Rattle.codes.specs.Code.{is_code, key_of}
use Rattle.codes.specs.Text.{Reading, accepted, above, reading}
use Rattle.codes.specs.Read.{keys}
use Rattle.codes.specs.Writing.{all_codes, ascending, code_of, text_of}
use Rattle.codes.proofs.Tests.{both}
use Rattle.codes.proofs.CodeLaws.{key_of_length}
use Rattle.codes.proofs.TextLaws.{code_parts}
use Rattle.codes.proofs.AcceptedLaws.{answer_done}
use Rattle.codes.proofs.NothingSkipped.{nothing_skipped, every_listing_accepted}
use Rattle.attester.specs.Extract.{extracted}
use Rattle.attester.specs.Extract as extraction
use Rattle.extractor.specs.Extract.{extraction_answer}
use Rattle.contradiction.specs.Outcome as outcome
use Rattle.contradiction.specs.Drill.{Drilling, number, no_number, refused, drilling, drill_answer, first_buffer, second_buffer, Drilled}
use Rattle.sagebutton.specs.Demand1.{Demand1, WrittenIsTheList}

-- The keys of codes are a listing

keys_sized : (cs : List Octets) → all_codes cs ≡ true → Each (λ k. length k ≡ 20) (map key_of cs)
unfolding all_codes
keys_sized [] e = tt
keys_sized (c ∷ cs) e =
    let h = both (is_code c) (all_codes cs) e in
    (key_of_length c (code_parts c h.0).few, keys_sized cs h.1)

below : (a b : Octets) → length a ≡ 20 → length b ≡ 20 → above (some a) b ≡ true → Below a b
unfolding above key
below a b p q e = rw (take_all 20 a (omega arith), take_all 20 b (omega arith)) (is_less_true (order a b) e)

keys_ascend : (b : Option Octets) (ks : List Octets) → Each (λ k. length k ≡ 20) ks → ascending b ks ≡ true → Ascending ks
unfolding ascending
keys_ascend b [] s e = tt
keys_ascend b (k ∷ []) s e = (tt, tt)
keys_ascend b (k ∷ j ∷ ks) s e =
    let h = both (above b k) (ascending (some k) (j ∷ ks)) e in
    let g = both (above (some k) j) (ascending (some j) ks) h.1 in
    ascending_cons k j ks (below k j s.0 s.1.0 g.0) (keys_ascend (some k) (j ∷ ks) s.1 h.1)

pub reading_listing : (room : ℕ) (text : Octets) (ks : List Octets) → reading room text ≡ accepted ks → Listing 20 3000 ks
reading_listing room text ks e =
    let w = nothing_skipped room text ks e in
    let l = w.listing in
    let n : length (map code_of ks) ≡ length ks = length-map ks code_of in
    let s : Each (λ k. length k ≡ 20) ks = rw w.its_keys at (keys_sized (map code_of ks) l.codes) in
    record {
      some_entry = rw n at l.some_codes;
      few = rw n at l.few;
      sized = s;
      ascending = keys_ascend none ks s (rw w.its_keys at l.order);
    }

keys_accepted : (r : Reading) (ks : List Octets) → r ≡ accepted ks → keys r ≡ flatten ks
unfolding keys
keys_accepted r ks e = rw e

module _ (text out out' : Octets) (n : ℕ) (ks : List Octets) (is : reading (length out) text ≡ accepted ks) (many : length ks ≡ n)
    (o : out' ≡ written (Done n) (keys (reading (length out) text)) out) where
  pub keys_front : take (20 * n) out' ≡ flatten ks
  unfolding written
  keys_front =
      let l = reading_listing (length out) text ks is in
      let n20 : length (flatten ks) ≡ 20 * n = omega (arith, flatten_length 20 ks l.sized) in
      let f : out' ≡ flatten ks ++ drop (length (flatten ks)) out = rw (keys_accepted (reading (length out) text) ks is) at o in
      rw f (take_at (flatten ks) (drop (length (flatten ks)) out) (20 * n) n20)

  pub entries_front_read : entries 20 n (take (20 * n) out') ≡ ks
  entries_front_read = rw keys_front (rw many at (entries_flatten 20 ks (reading_listing (length out) text ks is).sized))

  whole_list : text ≡ text_of (map code_of (entries 20 n out'))
  whole_list =
      let read : entries 20 n out' ≡ ks = sym (entries_front 20 n (20 * n) out' (omega arith)) ∙ entries_front_read in
      rw read (nothing_skipped (length out) text ks is).octet_for_octet

written_is_the_list : WrittenIsTheList
unfolding written
written_is_the_list text out n out' r =
    let t = answer_done (reading (length out) text) n (sym r.answered) in
    whole_list text out out' n t.those t.is t.many r.left

-- a drill that is refused left the buffers: either nothing was handed to the extractor, or the extractor refused
drill_untouched : (s : Octets) (bound : ℕ) (out₁ out₂ : Octets) (m p : ℕ) (out₁' out₂' : Octets)
    → Drilled s bound out₁ out₂ (outcome.Refused m p) out₁' out₂' → (out₁' ≡ out₁) × (out₂' ≡ out₂)
unfolding drill_answer first_buffer second_buffer extraction_answer written
drill_untouched s bound out₁ out₂ m p out₁' out₂' h = go (drilling s bound (length out₁) (length out₂)) h.answered h.first_left h.second_left
  where
    go : (d : Drilling) → outcome.Refused m p ≡ drill_answer d → out₁' ≡ first_buffer d out₁ → out₂' ≡ second_buffer d out₂
        → (out₁' ≡ out₁) × (out₂' ≡ out₂)
    go (number n (extracted f)) e a b = let z : ◌≡◌ {A = ℕ} 0 1 = cc in absurd (omega arith)
    go (number n (extraction.refused k q)) e a b = (a, b)
    go no_number e a b = (a, b)
    go (refused k q) e a b = (a, b)

pub demand_1 : Demand1
unfolding written
demand_1 = record {
  hash_untouched = λ msg out m p out' h. h.left;
  read_list_untouched = λ text out m p out' h. h.left;
  digest_untouched = λ profile list out m p out' h. h.left;
  attest_untouched = λ profile x list out m p out' h. h.left;
  extract_untouched = λ profile x d a b out₁ out₂ m p out₁' out₂' h. (h.first_left, h.second_left);
  drill_untouched = drill_untouched;
  written_is_the_list = written_is_the_list;
  nothing_skipped = nothing_skipped;
  every_listing_accepted = every_listing_accepted;
}
