-- Nodes put on top of a path leave step 3 and the smallest fault as they were.
use mathlib.Core.Path.{◌≡◌}
use mathlib.Core.List.{List, [], ◌∷◌}
use mathlib.Core.Option.{some}
use Prim.Native.Nat.{ℕ}
use Rattle.octets.specs.Order.{Octets}
use Rattle.attester.specs.Record.{Child}
use Rattle.attester.specs.Path.{Path, step}
use Rattle.attester.specs.Form.{climb}
use Rattle.attester.specs.Verdict.{hidden, fault}
use Rattle.attester.proofs.PathLaws.{foot_entry_climb, foot_left_climb, foot_right_climb}

-- Step 3 looks at the foot alone

pub hidden_climb : (x : Octets) (p : Path) (es : List Octets) (ss : List Child) → hidden x (climb p es ss) ≡ hidden x p
unfolding hidden
hidden_climb x p es ss = rw (foot_entry_climb p es ss, foot_left_climb p es ss, foot_right_climb p es ss)

-- Step 4: a fault below stays the smallest

module _ (x : Octets) where
  pub fault_climb : (p : Path) (i : ℕ) (es : List Octets) (ss : List Child) → fault x p ≡ some i → fault x (climb p es ss) ≡ some i
  unfolding climb fault
  fault_climb p i [] ss f = f
  fault_climb p i (e ∷ es) [] f = f
  fault_climb p i (e ∷ es) (s ∷ ss) f = fault_climb (step e s p) i es ss (rw f)
