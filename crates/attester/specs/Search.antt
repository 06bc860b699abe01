-- The search in a tree (01, "The attestation"), over any function H from records to labels.
use Rattle.std.specs.Prelude.{Bool, false, ◌||◌, List, [], ◌∷◌}
use Rattle.std.proofs.Math.Option.{none}
use Prim.Native.Nat.{Ordering}
use Rattle.octets.specs.Order.{Octets, same}
use Rattle.attester.specs.Entry.{key}
use Rattle.attester.specs.Tree.{Tree, leaf, node}
use Rattle.attester.specs.Label.{label}
use Rattle.attester.specs.Path.{Path, foot, step}
use Rattle.attester.specs.Verdict.{side}

-- left of a node, at it, or right of it
abbrev pub turn : Ordering → Path → Path → Path → Path
turn Ordering.lt left here right = left
turn Ordering.eq left here right = here
turn Ordering.gt left here right = right

-- on into a subtree, or, where there is none, no further
abbrev pub onward : Tree → Path → Path → Path
onward leaf on here = here
onward (node l e r) on here = on

module _ (H : Octets → Octets) (x : Octets) where
  -- 01: "For a listed key the foot is that key's node. For any other it is the last node that the search meets."
  -- An accepted list's tree has a node; in a tree without one, the search ends at a foot of nothing.
  unfoldable pub search : Tree → Path
  search leaf = foot [] none none
  search (node l e r) =
      turn (side x e)
      (onward l (step e (label H r) (search l)) (foot e (label H l) (label H r)))
      (foot e (label H l) (label H r))
      (onward r (step e (label H l) (search r)) (foot e (label H l) (label H r)))

-- whether x is the key of one of the entries
unfoldable pub listed : Octets → List Octets → Bool
listed x [] = false
listed x (e ∷ es) = same x (key e) || listed x es
