-- The first t words of w are the first t words of the schedule.
use Rattle.std.proofs.Common.{◌≡◌, length, take}
use Rattle.sha256.specs.Fips180.{schedule}
use Rattle.sha256.proofs.schedule.schedule.Given as goal

abbrev pub invariant-loop-t : goal.invariant-loop-t
invariant-loop-t l = record { full : length l.w ≡ 64; front : take l.t l.w ≡ schedule l.b l.t }
