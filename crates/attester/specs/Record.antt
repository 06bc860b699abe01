-- The node record (01, "Tree, node record, digest").
use Rattle.std.specs.Prelude.{◌≡◌, ◌∷◌, ◌++◌, ℕ, ◌+◌, ◌*◌, length, replicate}
use Rattle.std.proofs.Math.Option.{Option, none, some}
use Rattle.octets.specs.Order.{Octets}

-- a child is known by its label, where there is a child
abbrev pub Child : Type 0
Child = Option Octets

-- H gives labels: 32 octets for whatever it is given
abbrev pub Labels : (Octets → Octets) → Type 0
Labels H = (r : Octets) → length (H r) ≡ 32

-- 1 if there is a child
abbrev pub bit : Child → ℕ
bit none = 0
bit (some l) = 1

-- 01: "octet 0 is 1 if there is a left child plus 2 if there is a right one"
unfoldable pub flag : Child → Child → ℕ
flag l r = bit l + 2 * bit r

-- 01: "an absent child's label is 32 zeros"
unfoldable pub child_octets : Child → Octets
child_octets none = replicate 32 0
child_octets (some l) = l

-- 01: octet 0, the left child's label, the key (an entry, where it is more than its key), the right child's label
unfoldable pub node_record : Child → Octets → Child → Octets
node_record l e r = flag l r ∷ (child_octets l ++ (e ++ child_octets r))

-- 01: "A node record is 85 octets", of an entry that has 20
abbrev pub record_size : ℕ → ℕ
record_size w = 65 + w
