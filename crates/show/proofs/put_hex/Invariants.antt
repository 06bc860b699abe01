-- After i turns the digits of the first i octets are written.
use mathlib.Core.Path.{◌≡◌}
use Prim.Native.Nat.{◌≤◌}
use lib.ListN.{length, take}
use Rattle.octets.specs.Put.{Wrote}
use Rattle.show.specs.Hex.{hex}
use Rattle.show.proofs.put_hex.Given as goal

abbrev pub invariant-loop-octet : goal.invariant-loop-octet
invariant-loop-octet l = (l.octet-index ≤ length l.src) × (length l.out ≡ length l.initial.out) × Wrote l.initial.out l.at (hex (take l.octet-index l.src)) l.out l.p
