-- The path that an attestation shows (01, "The attestation"), with the root outermost.
use Rattle.std.specs.Prelude.{List, [], ◌∷◌, ◌++◌, ℕ, zero, suc}
use Rattle.octets.specs.Order.{Octets}
use Rattle.attester.specs.Record.{Child}

-- 01: the foot, its entry between its two children; or a node above it: its entry, "the child off the path", the path below
pub data Path : Type 0 where
  foot : Octets → Child → Child → Path
  step : Octets → Child → Path → Path

-- 01: km, at the root
unfoldable pub top : Path → Octets
top (foot e l r) = e
top (step e s p) = e

-- 01: k0, at the foot
unfoldable pub foot_entry : Path → Octets
foot_entry (foot e l r) = e
foot_entry (step e s p) = foot_entry p

-- 01, section "foot, left"
unfoldable pub foot_left : Path → Child
foot_left (foot e l r) = l
foot_left (step e s p) = foot_left p

-- 01, section "foot, right"
unfoldable pub foot_right : Path → Child
foot_right (foot e l r) = r
foot_right (step e s p) = foot_right p

-- 01: m = K - 1, the number of keys above the foot
unfoldable pub height : Path → ℕ
height (foot e l r) = zero
height (step e s p) = suc (height p)

-- 01, section "keys": "k0 to km"
unfoldable pub keys : Path → List Octets
keys (foot e l r) = e ∷ []
keys (step e s p) = keys p ++ (e ∷ [])

-- 01, section "siblings": "for k1 to km the optional label of the child off the path"
unfoldable pub siblings : Path → List Child
siblings (foot e l r) = []
siblings (step e s p) = siblings p ++ (s ∷ [])

-- 01, "Extractor", "from the root downward, level by level": the path that is left i levels below the root
unfoldable pub down : ℕ → Path → Path
down zero p = p
down (suc i) (foot e l r) = foot e l r
down (suc i) (step e s p) = down i p
