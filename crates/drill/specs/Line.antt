-- 02 (vi): the lines that `drill` prints: "the two node records in that order in lower-case hex, one a line, or `none`".
use Rattle.std.specs.Prelude.{[], ◌∷◌, ◌++◌}
use Rattle.octets.specs.Order.{Octets}
use Rattle.attester.specs.Record.{record_size}
use Rattle.attester.specs.Extract.{extracted}
use Rattle.attester.specs.Extract as extractor
use Rattle.show.specs.Hex.{hex}
use Rattle.show.specs.Refusal.{refusal_line}
use Rattle.tree.specs.Edition.{width}
use Rattle.contradiction.specs.Drill.{Drilling, number, no_number, refused, drilling}

-- two records, "one a line"
unfoldable pub record_lines : Octets → Octets → Octets
record_lines first second = hex first ++ (10 ∷ []) ++ hex second ++ (10 ∷ [])

-- "or `none`", in ASCII, and LF
abbrev pub none_line : Octets
none_line = 110 ∷ 111 ∷ 110 ∷ 101 ∷ 10 ∷ []

-- what the drill comes to, as lines; a refusal as document 01's program prints it
unfoldable pub shown : Drilling → Octets
shown (number n (extracted f)) = record_lines f.first f.second
shown (number n (extractor.refused m p)) = refusal_line m p
shown no_number = none_line
shown (refused m p) = refusal_line m p

-- the lines for a text, "at most 1,048,576 of them" tried, with buffers of a record each
unfoldable pub drill_lines : Octets → Octets
drill_lines text = shown (drilling text 1048576 (record_size width) (record_size width))
