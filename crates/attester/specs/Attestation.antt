-- The octets of an attestation (01, "The attestation").
use mathlib.Core.List.{List, [], ◌∷◌, ◌++◌, map, flatten}
use Rattle.std.proofs.Math.Option.{none, some}
use Rattle.std.specs.Prelude.{suc}
use Rattle.octets.specs.Order.{Octets}
use Rattle.attester.specs.Record.{Child}
use Rattle.attester.specs.Tree.{tree}
use Rattle.attester.specs.Path.{Path, foot_left, foot_right, height, keys, siblings}
use Rattle.attester.specs.Search.{search}

-- 01: "An optional label is its count, 0 or 1, then that many labels of 32 octets."
unfoldable pub optional_octets : Child → Octets
optional_octets none = 0 ∷ []
optional_octets (some l) = 1 ∷ l

-- 01: the four sections: K and the keys; the foot's left; its right; K - 1 and the siblings
unfoldable pub render : Path → Octets
render p =
    suc (height p) ∷ (flatten (keys p)
    ++ (optional_octets (foot_left p)
    ++ (optional_octets (foot_right p)
    ++ (height p ∷ flatten (map optional_octets (siblings p))))))

-- 01: the attestation for x in the list of entries es, by the label function H
unfoldable pub attestation : (Octets → Octets) → List Octets → Octets → Octets
attestation H es x = render (search H x (tree es))
