-- out begins with the octets of the first i words.
use Rattle.std.proofs.Common.{◌≡◌, ◌*◌, length, take}
use Rattle.std.specs.List.{flat_map}
use Rattle.sha256.specs.Fips180.{octets}
use Rattle.sha256.proofs.compress.digest.Given as goal

abbrev pub invariant-loop-i : goal.invariant-loop-i
invariant-loop-i l = record { full : length l.out ≡ 32; front : take (4 * l.i) l.out ≡ flat_map (octets 4) (take l.i l.x-items) }
