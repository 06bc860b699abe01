-- What holds of each entry of a list holds of its parts; what ascends step by step ascends throughout, and so do its parts.
use mathlib.Core.List.{List, [], ◌∷◌, ◌++◌}
use Prim.Native.Nat.{ℕ, zero, suc, ◌<◌}
use native.Mathlib.Nat.{not-suc-le-zero, le_of_suc-le-suc}
use lib.ListN.{length, take, get_or}
use Rattle.octets.specs.Order.{Octets}
use Rattle.octets.proofs.OrderLaws.{order_trans}
use Rattle.attester.specs.Entry.{key}
use Rattle.attester.specs.Listing.{Below, Each, Ascending}

pub each_map : (P Q : Octets → Type 0) → ((e : Octets) → P e → Q e) → (es : List Octets) → Each P es → Each Q es
each_map P Q f [] h = tt
each_map P Q f (e ∷ es) h = (f e h.0, each_map P Q f es h.1)

pub each_left : (P : Octets → Type 0) (xs ys : List Octets) → Each P (xs ++ ys) → Each P xs
each_left P [] ys h = tt
each_left P (e ∷ xs) ys h = (h.0, each_left P xs ys h.1)

pub each_right : (P : Octets → Type 0) (xs ys : List Octets) → Each P (xs ++ ys) → Each P ys
each_right P [] ys h = h
each_right P (e ∷ xs) ys h = each_right P xs ys h.1

pub ascending_cons : (e f : Octets) (es : List Octets) → Below e f → Ascending (f ∷ es) → Ascending (e ∷ f ∷ es)
ascending_cons e f es h t =
    ((h, each_map (Below f) (Below e) (λ g q. order_trans (key e) (key f) (key g) h q) es t.0), t)

-- an ascending list parted at one of its entries
pub record Parted (before : List Octets) (e : Octets) (after : List Octets) : Type 0 where
  pub all_below : Each (λ f. Below f e) before
  pub all_above : Each (Below e) after
  pub left : Ascending before
  pub right : Ascending after

pub ascending_parted : (before : List Octets) (e : Octets) (after : List Octets) → Ascending (before ++ e ∷ after) → Parted before e after
ascending_parted [] e after h = record { all_below = tt; all_above = h.0; left = tt; right = h.1 }
ascending_parted (f ∷ before) e after h =
    let p = ascending_parted before e after h.1 in
    record {
      all_below = ((each_right (Below f) before (e ∷ after) h.0).0, p.all_below);
      all_above = p.all_above;
      left = (each_left (Below f) before (e ∷ after) h.0, p.left);
      right = p.right;
    }

-- By the index

pub each_at : (P : Octets → Type 0) (es : List Octets) (j : ℕ) → Each P es → j < length es → P (get_or es j [])
each_at P [] j h n = absurd (not-suc-le-zero n)
each_at P (e ∷ es) zero h n = h.0
each_at P (e ∷ es) (suc j) h n = each_at P es j h.1 (le_of_suc-le-suc n)

pub ascending_at : (es : List Octets) (i j : ℕ) → Ascending es → i < j → j < length es → Below (get_or es i []) (get_or es j [])
ascending_at [] i j h m n = absurd (not-suc-le-zero n)
ascending_at (e ∷ es) i zero h m n = absurd (not-suc-le-zero m)
ascending_at (e ∷ es) zero (suc j) h m n = each_at (Below e) es j h.0 (le_of_suc-le-suc n)
ascending_at (e ∷ es) (suc i) (suc j) h m n = ascending_at es i j h.1 (le_of_suc-le-suc m) (le_of_suc-le-suc n)

pub each_take : (P : Octets → Type 0) (n : ℕ) (es : List Octets) → Each P es → Each P (take n es)
each_take P zero es h = tt
each_take P (suc n) [] h = tt
each_take P (suc n) (e ∷ es) h = (h.0, each_take P n es h.1)

pub ascending_take : (n : ℕ) (es : List Octets) → Ascending es → Ascending (take n es)
ascending_take zero es h = tt
ascending_take (suc n) [] h = tt
ascending_take (suc n) (e ∷ es) h = (each_take (Below e) n es h.0, ascending_take n es h.1)
