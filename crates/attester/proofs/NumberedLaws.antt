-- Lists as long as one likes, to show that a bound is reached: the entries of the numbers from i on, two octets for the number
-- and then zeros; octets they are where the numbers are below 65,536.
use mathlib.Core.Path.{◌≡◌, refl, ap}
use mathlib.Core.Bool.{false}
use mathlib.Core.List.{List, [], ◌∷◌}
use Prim.Native.Nat.{ℕ, zero, suc, ◌+◌, ◌-◌, ◌/◌, ◌%◌, ◌≤◌, ◌<◌}
use native.Mathlib.Decide.{dec_lt}
use native.Mathlib.Omega.{arith}
use lib.ListN.{length, replicate, length-replicate}
use Rattle.octets.specs.Order.{Octets, AreOctets, order, same}
use Rattle.octets.proofs.OctetLaws.{octets_zeros}
use Rattle.octets.proofs.OrderLaws.{lt_compare, compare_refl}
use Rattle.attester.specs.Entry.{key}
use Rattle.attester.specs.Listing.{Below, Each, Ascending, Listing}

unfoldable pub numbered : ℕ → ℕ → Octets
numbered w i = i / 256 ∷ i % 256 ∷ replicate (w - 2) 0

pub numbered_length : (w i : ℕ) → 2 ≤ w → length (numbered w i) ≡ w
unfolding numbered
numbered_length w i h = omega (arith, length-replicate {A = ℕ} (w - 2) 0)

pub numbered_octets : (w i : ℕ) → i < 65536 → AreOctets (numbered w i)
unfolding numbered
numbered_octets w i h = (omega arith, (omega arith, octets_zeros (w - 2)))

pub numbered_below : (w i j : ℕ) → i < j → Below (numbered w i) (numbered w j)
unfolding numbered key order
numbered_below w i j h =
    elim (dec_lt (i / 256) (j / 256)) [
      | yes k ↦ rw (lt_compare (i / 256) (j / 256) k)
      | no k ↦
          let e : i / 256 ≡ j / 256 = omega arith in
          rw (e, compare_refl (j / 256), lt_compare (i % 256) (j % 256) (omega arith))
    ]

pub numbered_other : (w i j : ℕ) → i < j → same (key (numbered w i)) (key (numbered w j)) ≡ false
unfolding same
numbered_other w i j h = rw (numbered_below w i j h)

unfoldable pub rising : ℕ → ℕ → ℕ → List Octets
rising w i zero = []
rising w i (suc n) = numbered w i ∷ rising w (suc i) n

pub rising_length : (w i n : ℕ) → length (rising w i n) ≡ n
unfolding rising
rising_length w i zero = refl
rising_length w i (suc n) = ap suc (rising_length w (suc i) n)

rising_sized : (w i n : ℕ) → 2 ≤ w → Each (λ e. length e ≡ w) (rising w i n)
unfolding rising
rising_sized w i zero h = tt
rising_sized w i (suc n) h = (numbered_length w i h, rising_sized w (suc i) n h)

pub rising_octets : (w i n : ℕ) → i + n ≤ 65536 → Each AreOctets (rising w i n)
unfolding rising
rising_octets w i zero h = tt
rising_octets w i (suc n) h = (numbered_octets w i (omega arith), rising_octets w (suc i) n (omega arith))

rising_above : (w i j n : ℕ) → i < j → Each (Below (numbered w i)) (rising w j n)
unfolding rising
rising_above w i j zero h = tt
rising_above w i j (suc n) h = (numbered_below w i j h, rising_above w i (suc j) n (omega arith))

rising_ascending : (w i n : ℕ) → Ascending (rising w i n)
unfolding rising
rising_ascending w i zero = tt
rising_ascending w i (suc n) = (rising_above w i (suc i) n (omega arith), rising_ascending w (suc i) n)

pub rising_listing : (w n : ℕ) → 2 ≤ w → 0 < n → Listing w n (rising w 0 n)
rising_listing w n h k = record {
  some_entry = rw (rising_length w 0 n) k;
  few = rw (rising_length w 0 n) (omega arith);
  sized = rising_sized w 0 n h;
  ascending = rising_ascending w 0 n;
}
