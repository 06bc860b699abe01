-- The loop's invariant: below level j no fault was found.
use Prim.Native.Nat.{◌-◌}
use Rattle.attestation.proofs.JudgeLaws.{Clean}
use Rattle.attestation.proofs.judge.fault.Given as goal

abbrev pub invariant-loop-j : goal.invariant-loop-j
invariant-loop-j l = Clean l.x l.att.octets.now (l.j - 1)
