-- The loop's invariant: rec is the record on level j - 1, and the siblings that are left stand from offset at on.
use Prim.Native.Nat.{◌-◌}
use Rattle.profile.specs.Profile.{label}
use Rattle.profile.specs.Named.{number_of_profile}
use Rattle.attestation.proofs.JudgeLaws.{Risen}
use Rattle.attestation.proofs.judge.record_below.Given as goal

abbrev pub invariant-loop-j : goal.invariant-loop-j
invariant-loop-j l = Risen (label (number_of_profile l.profile)) l.x l.att.octets.now (l.j - 1) l.at l.rec
