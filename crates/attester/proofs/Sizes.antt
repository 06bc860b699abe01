-- What proofs say of the paths that have an attestation's form: each entry has w octets, and each label 32.
use mathlib.Core.Path.{◌≡◌}
use mathlib.Core.Option.{none, some}
use Prim.Native.Nat.{ℕ}
use lib.ListN.{length}
use Rattle.octets.specs.Order.{Octets}
use Rattle.attester.specs.Record.{Child}
use Rattle.attester.specs.Path.{Path, foot, step}

-- a child's label has 32 octets, where there is a child
abbrev pub Labelled : Child → Type 0
Labelled none = Unit {0}
Labelled (some l) = length l ≡ 32

-- P holds of each entry, and Q of each child
abbrev pub Throughout : (Octets → Type 0) → (Child → Type 0) → Path → Type 0
Throughout P Q (foot e l r) = P e × Q l × Q r
Throughout P Q (step e s p) = P e × Q s × Throughout P Q p

abbrev pub Sized : ℕ → Path → Type 0
Sized w = Throughout (λ e. length e ≡ w) Labelled
