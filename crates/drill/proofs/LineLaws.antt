-- The printed lines are the text's: what the drill left in the two buffers are the extractor's records, each of its buffer's length.
use mathlib.Core.Path.{◌≡◌, refl, sym, ◌∙◌}
use Prim.Native.Nat.{ℕ}
use native.Mathlib.Omega.{arith}
use lib.ListN.{length, length-append}
use Rattle.octets.specs.Order.{Octets}
use Rattle.attester.specs.Extract.{extracted}
use Rattle.attester.specs.Extract as extractor
use Rattle.show.specs.Refusal.{refusal_line}
use Rattle.show.proofs.HexLaws.{hex_length}
use Rattle.extractor.specs.Extract.{extraction_answer, first_record, second_record}
use Rattle.answer.proofs.WrittenLaws.{written_whole}
use Rattle.contradiction.specs.Outcome.{Outcome, Found, None, Refused}
use Rattle.contradiction.specs.Drill.{Drilling, number, no_number, refused, drilling, drill_answer, first_buffer, second_buffer, CarriedOut}
use Rattle.contradiction.proofs.SizedLaws.{records_sized}
use Rattle.drill.specs.Line.{record_lines, none_line, shown, drill_lines}

pub record_lines_length : (a b : Octets) → length a ≡ 85 → length b ≡ 85 → length (record_lines a b) ≡ 342
unfolding record_lines
record_lines_length a b h g = simp length-append (omega (arith, hex_length a, hex_length b))

module _ (text a b : Octets) (ha : length a ≡ 85) (hb : length b ≡ 85) where
  -- the drill's promise of two such buffers: the outcome, and what is left in each
  abbrev Drills : Outcome → Octets → Octets → Type 0
  Drills r a' b' = CarriedOut (drilling text 1048576 (length a) (length b)) a b r a' b'

  sized : {r : Outcome} {a' b' : Octets} → Drills r a' b' → CarriedOut (drilling text 1048576 85 85) a b r a' b'
  sized d = rw (ha, hb) at d

  pub lines_found : (n : ℕ) (a' b' : Octets) → Drills (Found n) a' b' → record_lines a' b' ≡ drill_lines text
  unfolding drill_lines shown drill_answer first_buffer second_buffer extraction_answer first_record second_record
  lines_found n a' b' d = go (drilling text 1048576 85 85) refl (sized d)
    where
      go : (q : Drilling) → drilling text 1048576 85 85 ≡ q → CarriedOut q a b (Found n) a' b' → record_lines a' b' ≡ shown q
      go (number m (extracted f)) h c =
          let z = records_sized text 1048576 m f h in
          rw (c.first_left, c.second_left, written_whole f.passed f.first a (z.0 ∙ sym ha), written_whole f.passed f.second b (z.1 ∙ sym hb))
      go (number m (extractor.refused i p)) h c = let r = c.answered in cc
      go no_number h c = let r = c.answered in cc
      go (refused i p) h c = let r = c.answered in cc

  pub lines_none : (a' b' : Octets) → Drills None a' b' → none_line ≡ drill_lines text
  unfolding drill_lines shown drill_answer
  lines_none a' b' d = go (drilling text 1048576 85 85) (sized d).answered
    where
      go : (q : Drilling) → None ≡ drill_answer q → none_line ≡ shown q
      go (number m (extracted f)) r = cc
      go (number m (extractor.refused i p)) r = cc
      go no_number r = refl
      go (refused i p) r = cc

  pub lines_refused : (m p : ℕ) (a' b' : Octets) → Drills (Refused m p) a' b' → refusal_line m p ≡ drill_lines text
  unfolding drill_lines shown drill_answer
  lines_refused m p a' b' d = go (drilling text 1048576 85 85) (sized d).answered
    where
      go : (q : Drilling) → Refused m p ≡ drill_answer q → refusal_line m p ≡ shown q
      go (number i (extracted f)) r = cc
      go (number i (extractor.refused m' p')) r = cc
      go no_number r = cc
      go (refused m' p') r = cc
