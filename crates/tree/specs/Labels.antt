-- What the code's functions on labels answer, in the theory's words.
use Rattle.std.specs.Prelude.{Bool, true, false, ℕ, ◌+◌, ◌*◌, ◌/◌, length}
use Rattle.octets.specs.Order.{Octets}
use Rattle.attester.specs.Entry.{entries}
use Rattle.attester.specs.Label.{digest}

-- 1 if it is true
abbrev pub one_if : Bool → ℕ
one_if true = 1
one_if false = 0

-- 01, "Tree, node record, digest": octet 0, from whether there is a left child, and a right one
abbrev pub flag_of : Bool → Bool → ℕ
flag_of left right = one_if left + 2 * one_if right

-- the label of the tree of a list's entries, w octets each, by the label function H; 32 zeros where there are none
unfoldable pub label_of : (Octets → Octets) → ℕ → Octets → Octets
label_of H w keys = digest H (entries w (length keys / w) keys)
