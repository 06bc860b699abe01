-- The pair that the walk finds, by its level.
use Rattle.std.specs.Prelude.{ℕ}
use Rattle.octets.specs.Order.{Octets}
use Rattle.attester.specs.Path.{Path, down}
use Rattle.attester.specs.Verdict.{root_record}
use Rattle.attester.specs.Walk.{Found}

-- the records of two paths, i levels below the roots
abbrev pub pair : (Octets → Octets) → Octets → Path → Path → ℕ → Found
pair H x p q i = record { passed = i; first = root_record H x (down i p); second = root_record H x (down i q) }
