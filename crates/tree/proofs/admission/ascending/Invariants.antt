-- The loop's invariant: of the keys from index i on, and the one before them, the first misplaced is the whole list's.
use Prim.Native.Nat.{◌≤◌}
use Rattle.tree.proofs.AdmissionLaws.{Rising}
use Rattle.tree.proofs.admission.ascending.Given as goal

abbrev pub invariant-loop-i : goal.invariant-loop-i
invariant-loop-i l = (1 ≤ l.i) × (l.i ≤ l.n) × Rising l.keys l.n l.i
