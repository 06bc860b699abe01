-- The search's path in the code's terms: a key list as octets, parted at its middle key.
use Rattle.std.specs.Prelude.{[], ◌++◌, ◌≡◌, length, map, take, drop}
use mathlib.Core.List.{flatten}
use Prim.Native.Nat.{ℕ, ◌+◌, ◌*◌, ◌/◌, ◌%◌, ◌≤◌, Ordering}
use Rattle.octets.specs.Order.{Octets, order}
use Rattle.attester.specs.Entry.{entries}
use Rattle.attester.specs.Record.{Child}
use Rattle.attester.specs.Tree.{tree}
use Rattle.attester.specs.Label.{label}
use Rattle.attester.specs.Path.{Path, foot_left, foot_right, keys, siblings}
use Rattle.attester.specs.Attestation.{optional_octets}
use Rattle.attester.specs.Search.{search}
use Rattle.tree.specs.Edition.{width, most}

-- at least one key, and nothing but keys, no more than a list may have
pub record Keyed (s : Octets) : Type 0 where
  pub some_key : width ≤ length s
  pub whole : length s % width ≡ 0
  pub few : length s ≤ most * width

-- where the middle key begins (01: "the key at position floor(n/2)")
unfoldable pub middle_at : Octets → ℕ
middle_at s = 20 * (length s / 20 / 2)

-- that key
abbrev pub middle_key : Octets → Octets
middle_key s = take 20 (drop (middle_at s) s)

-- one of three, by where x stands
abbrev pub by_side : Ordering → Octets → Octets → Octets → Octets
by_side Ordering.lt a b c = a
by_side Ordering.eq a b c = b
by_side Ordering.gt a b c = c

-- the keys among which the search goes on; none where x is the middle key
unfoldable pub onward_part : Octets → Octets → Octets
onward_part x s = by_side (order x (middle_key s)) (take (middle_at s) s) [] (drop (middle_at s + 20) s)

-- the keys that it leaves aside
unfoldable pub aside_part : Octets → Octets → Octets
aside_part x s = by_side (order x (middle_key s)) (drop (middle_at s + 20) s) [] (take (middle_at s) s)

-- the child that these keys make, by the label function H
unfoldable pub child_of : (Octets → Octets) → Octets → Child
child_of H s = label H (tree (entries width (length s / width) s))

-- the path of the search for x among these keys, by the label function H
unfoldable pub path_in : (Octets → Octets) → Octets → Octets → Path
path_in H x s = search H x (tree (entries width (length s / width) s))

-- what the sections hold (01, "The attestation"), but for their counts: the keys
abbrev pub key_octets : Path → Octets
key_octets p = flatten (keys p)

-- the foot's left label and its right one
abbrev pub foot_octets : Path → Octets
foot_octets p = optional_octets (foot_left p) ++ optional_octets (foot_right p)

-- the siblings
abbrev pub sibling_octets : Path → Octets
sibling_octets p = flatten (map optional_octets (siblings p))
