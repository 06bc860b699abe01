-- A label has 32 octets in each profile, each below 256; and what is answered in a profile that is known, and in one that is not.
use mathlib.Core.Path.{◌≡◌, refl, sym, ap, ◌∙◌}
use mathlib.Core.List.{◌++◌}
use mathlib.Core.Bool.{Bool, true, false, cond, ◌||◌}
use mathlib.Core.Logic.{◌⊎◌, inl, inr}
use Prim.Native.Nat.{ℕ, ◌≤◌}
use native.Mathlib.Omega.{arith}
use borrow.Author.Tests.{ne_eqb, eqb-true}
use lib.Dec.{eqb}
use lib.ListN.{length, take, drop, replicate, length-append}
use lib.Seq.{length-take-le}
use Rattle.answer.specs.Refusals.{unknown_profile}
use Rattle.octets.specs.Order.{Octets, AreOctets}
use Rattle.octets.proofs.OctetLaws.{octets_append, octets_take, octets_zeros}
use Rattle.sha256.specs.Fips180.{sha256}
use Rattle.sha256.proofs.Fips180Laws.{sha256_length, sha256_octets}
use Rattle.profile.specs.declared.Profile.{Profile}
use Rattle.profile.specs.declared.Profile.TheVariants.{Full, Drill}
use Rattle.std.specs.Prelude.{Result, Ok, Err}
use Rattle.std.specs.Result.{is_ok, result_unwrap_or}
use Rattle.answer.specs.declared.Refusal.{Refusal}
use Rattle.profile.specs.Named.{number_of_profile, Names}
use Rattle.profile.specs.Profile.{full, drill, known, short, kept, label, in_profile}

front_length : (n : ℕ) (h : Octets) → n ≤ 32 → length h ≡ 32 → length (take n h) ≡ n
front_length n h f e = length-take-le n h (omega arith)

pub label_length : (profile : ℕ) (r : Octets) → length (label profile r) ≡ 32
unfolding label kept
label_length profile r = go (eqb profile drill)
  where
    go : (b : Bool) → length (cond b (short (sha256 r)) (sha256 r)) ≡ 32
    go true = rw (length-append (take 2 (sha256 r)) (replicate 30 0), front_length 2 (sha256 r) (omega arith) (sha256_length r)) refl
    go false = sha256_length r

pub label_octets : (profile : ℕ) (r : Octets) → AreOctets (label profile r)
unfolding label kept
label_octets profile r = go (eqb profile drill)
  where
    go : (b : Bool) → AreOctets (cond b (short (sha256 r)) (sha256 r))
    go true = octets_append (take 2 (sha256 r)) (replicate 30 0) (octets_take 2 (sha256 r) (sha256_octets r)) (octets_zeros 30)
    go false = sha256_octets r

-- What a label is in each profile

pub label_full : (r : Octets) → label full r ≡ sha256 r
unfolding label kept
label_full r = refl

pub label_drill : (r : Octets) → label drill r ≡ short (sha256 r)
unfolding label kept
label_drill r = refl

pub full_known : known full ≡ true
unfolding known
full_known = refl

pub drill_known : known drill ≡ true
unfolding known
drill_known = refl

-- where there is no profile of a number, its label is the full one
pub label_unknown : (profile : ℕ) → known profile ≡ false → label profile ≡ label full
unfolding known label kept
label_unknown profile k = ap {B = Octets → Octets} (λ (b : Bool) (r : Octets). cond b (short (sha256 r)) (sha256 r)) (go (eqb profile full) (eqb profile drill) k)
  where
    go : (a b : Bool) → a || b ≡ false → b ≡ false
    go true b e = cc
    go false b e = e

pub named_known : (p : Profile) → known (number_of_profile p) ≡ true
unfolding known
named_known Full = refl
named_known Drill = refl

-- what a number names, in the functions that take numbers

pub known_by_number : (n : ℕ) (r : Result Profile Refusal) → Names n r → is_ok r ≡ known n
known_by_number n (Ok p) e = sym (rw e (named_known p))
known_by_number n (Err r) e = sym e.0

pub labels_by_number : (n : ℕ) (r : Result Profile Refusal) → Names n r → label (number_of_profile (result_unwrap_or r Full)) ≡ label n
labels_by_number n (Ok p) e = rw e
labels_by_number n (Err r) e = sym (label_unknown n e.0)

pub label_by_number : (n : ℕ) (r : Result Profile Refusal) (s : Octets) → Names n r
    → label (number_of_profile (result_unwrap_or r Full)) s ≡ label n s
label_by_number n r s e = ap (λ (H : Octets → Octets). H s) (labels_by_number n r e)

-- The ends of the code

pub no_profile : (n : ℕ) → (n ≡ full → ⊥) → (n ≡ drill → ⊥) → known n ≡ false
unfolding known
no_profile n e f = rw (ne_eqb n full e, ne_eqb n drill f)

module _ (r : Octets) {h : Octets} (e : h ≡ sha256 r) where
  pub label_whole : h ≡ label full r
  label_whole = e ∙ sym (label_full r)

  -- of 32 zeros the first 2 are written over by the hash's
  pub label_short : {s : Octets} → s ≡ take 2 h → s ++ drop 2 (replicate 32 0) ≡ label drill r
  label_short {s} w = rw (w, e, label_drill r)

-- 17, or what is answered

module _ {A : Type 0} (Refused : ℕ → ℕ → A) (profile : ℕ) (answered : A) where
  pub in_known : known profile ≡ true → in_profile Refused profile answered ≡ answered
  in_known k = rw k

  pub in_unknown : known profile ≡ false → in_profile Refused profile answered ≡ Refused unknown_profile 0
  in_unknown k = rw k

  -- what is not 17 is of a known profile
  pub other_known : {r : A} → r ≡ in_profile Refused profile answered → (r ≡ Refused unknown_profile 0 → ⊥) → known profile ≡ true
  other_known {r} e n = go (known profile) refl e
    where
      go : (b : Bool) → known profile ≡ b → r ≡ cond b answered (Refused unknown_profile 0) → known profile ≡ true
      go true k f = k
      go false k f = absurd (n f)

-- the numbers of the profiles
pub known_numbers : (profile : ℕ) → known profile ≡ true → (profile ≡ full) ⊎ (profile ≡ drill)
unfolding known
known_numbers profile k = go (eqb profile full) refl
  where
    go : (b : Bool) → eqb profile full ≡ b → (profile ≡ full) ⊎ (profile ≡ drill)
    go true e = inl (eqb-true profile full e)
    go false e = inr (eqb-true profile drill (rw e at k))
