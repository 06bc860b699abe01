-- What a list holds: entries of w octets, each with its key first. In document 01 an entry is its key, and w is 20.
use Rattle.std.specs.Prelude.{List, [], ◌∷◌, ℕ, zero, suc, take, drop}
use Rattle.octets.specs.Order.{Octets}

-- 01, "Keys and codes": a key is 20 octets; in an entry they stand first
unfoldable pub key : Octets → Octets
key e = take 20 e

-- n entries of w octets, one after another
unfoldable pub entries : ℕ → ℕ → Octets → List Octets
entries w zero s = []
entries w (suc n) s = take w s ∷ entries w n (drop w s)
