-- The lists that are accepted (01, "Tree, node record, digest": "1 to 3,000 keys, strictly ascending").
use Rattle.std.specs.Prelude.{◌≡◌, List, [], ◌∷◌, ℕ, ◌≤◌, ◌<◌, length}
use Prim.Native.Nat.{Ordering}
use Rattle.octets.specs.Order.{Octets, order}
use Rattle.attester.specs.Entry.{key}

-- 01, "Keys and codes": the first entry's key is below the second's; nothing but keys is ever compared
abbrev pub Below : Octets → Octets → Type 0
Below a b = order (key a) (key b) ≡ Ordering.lt

-- P holds of each entry
abbrev pub Each : (Octets → Type 0) → List Octets → Type 0
Each P [] = Unit {0}
Each P (e ∷ es) = P e × Each P es

-- 01: "strictly ascending": each entry is below all that follow it
abbrev pub Ascending : List Octets → Type 0
Ascending [] = Unit {0}
Ascending (e ∷ es) = Each (Below e) es × Ascending es

-- 01: 1 to `most` entries of w octets, their keys strictly ascending
pub record Listing (w most : ℕ) (es : List Octets) : Type 0 where
  pub some_entry : 0 < length es
  pub few : length es ≤ most
  pub sized : Each (λ e. length e ≡ w) es
  pub ascending : Ascending es
