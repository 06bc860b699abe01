-- Octet strings and their order (01, "Keys and codes": "octet by octet from the first, as unsigned numbers").
use Rattle.std.specs.Prelude.{Bool, true, false, List, [], ◌∷◌}
use Prim.Native.Nat.{ℕ, ◌<◌, compare, Ordering}
use Rattle.std.proofs.Math.Dec.{compare_is_eq}

-- an octet is a number; an octet string is a list of them
abbrev pub Octets : Type 0
Octets = List ℕ

-- an octet is 8 bits: each of these numbers is below 256
abbrev pub AreOctets : Octets → Type 0
AreOctets [] = Unit {0}
AreOctets (a ∷ s) = (a < 256) × AreOctets s

-- the first difference decides
abbrev pub or_else : Ordering → Ordering → Ordering
or_else Ordering.lt o = Ordering.lt
or_else Ordering.eq o = o
or_else Ordering.gt o = Ordering.gt

-- octet by octet from the first; of two that agree as far as both go, the shorter is less
unfoldable pub order : Octets → Octets → Ordering
order [] [] = Ordering.eq
order [] (b ∷ ys) = Ordering.lt
order (a ∷ xs) [] = Ordering.gt
order (a ∷ xs) (b ∷ ys) = or_else (compare a b) (order xs ys)

-- the same octets, one by one
unfoldable pub same : Octets → Octets → Bool
same a b = compare_is_eq (order a b)

-- the first is less than the second
abbrev pub is_less : Ordering → Bool
is_less Ordering.lt = true
is_less Ordering.eq = false
is_less Ordering.gt = false
