-- The loop's invariant: the labels that are left, from the offset reached on, end where all the labels do.
use mathlib.Core.Path.{◌≡◌}
use Prim.Native.Nat.{◌+◌, ◌*◌, ◌-◌, ◌≤◌}
use lib.ListN.{length, drop}
use Rattle.attester.specs.Reader.{many}
use Rattle.attester.specs.Form.{optional}
use Rattle.attestation.specs.Form.{read_answer}
use Rattle.attestation.proofs.form.optionals_end.Given as goal

abbrev pub invariant-loop-read : goal.invariant-loop-read
invariant-loop-read l = (l.end ≤ length l.att)
    × (l.end + 33 * (l.m - l.read) ≤ 1731)
    × (read_answer (length l.att) (many optional l.m (drop l.at l.att)) ≡ read_answer (length l.att) (many optional (l.m - l.read) (drop l.end l.att)))
