-- What is made of octets is octets: two strings joined, the front of one, and zeros.
use mathlib.Core.List.{[], ◌∷◌, ◌++◌}
use Prim.Native.Nat.{ℕ, zero, suc}
use native.Mathlib.Omega.{arith}
use lib.ListN.{take, replicate}
use Rattle.octets.specs.Order.{Octets, AreOctets}

pub octets_append : (s t : Octets) → AreOctets s → AreOctets t → AreOctets (s ++ t)
octets_append [] t h k = k
octets_append (a ∷ s) t h k = (h.0, octets_append s t h.1 k)

pub octets_take : (n : ℕ) (s : Octets) → AreOctets s → AreOctets (take n s)
octets_take zero s h = tt
octets_take (suc n) [] h = tt
octets_take (suc n) (a ∷ s) h = (h.0, octets_take n s h.1)

pub octets_zeros : (n : ℕ) → AreOctets (replicate n 0)
octets_zeros zero = tt
octets_zeros (suc n) = (omega arith, octets_zeros n)
