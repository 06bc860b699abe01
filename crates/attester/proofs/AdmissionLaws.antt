-- What `admit` answers, case by case; that what it admits is an accepted list whose octets are all of the octets; that
-- the octets of every accepted list are admitted and give it back; and how large a refusal's place can be.
use mathlib.Core.Path.{◌≡◌, refl, ◌∙◌, subst}
use mathlib.Core.Bool.{Bool, true, false, cond}
use mathlib.Core.List.{List, [], ◌∷◌, flatten}
use mathlib.Core.Option.{Option, none, some}
use Prim.Native.Nat.{ℕ, zero, suc, ◌+◌, ◌-◌, ◌*◌, ◌/◌, ◌%◌, ◌≤◌, ◌<◌}
use native.Mathlib.Nat.{not-suc-le-zero, mul-pos, mul-mod_left, mul-div_left, div-add-mod'}
use native.Mathlib.Omega.{arith}
use borrow.Author.Tests.{ltb-false, eqb-false, lt-ltb, le-ltb, ne_eqb}
use lib.Dec.{eqb, ltb}
use lib.ListN.{length, drop, get_or, drop_of_length-le}
use lib.Seq.{drop-cons}
use Rattle.answer.specs.Refusals.{no_keys, ragged, too_many, IsRefusal}
use Rattle.octets.specs.Order.{Octets, order, is_less}
use Rattle.octets.proofs.OrderLaws.{is_less_true}
use Rattle.attester.specs.Entry.{key, entries}
use Rattle.attester.specs.Listing.{Ascending, Listing}
use Rattle.attester.specs.Admission.{Admission, admitted, refused, misplaced_after, misplaced, sound, admit}
use Rattle.attester.proofs.EntryLaws.{entries_length, entries_sized, entries_whole, entries_flatten, flatten_length}
use Rattle.attester.proofs.ListingLaws.{ascending_cons}

-- Nothing misplaced

cond_none : (b : Bool) (o : Option ℕ) (i : ℕ) → cond b o (some i) ≡ none → (b ≡ true) × (o ≡ none)
cond_none true o i e = (refl, e)
cond_none false o i e = (cc, cc)

after_ascending : (e : Octets) (i : ℕ) (es : List Octets) → misplaced_after e i es ≡ none → Ascending (e ∷ es)
unfolding misplaced_after
after_ascending e i [] h = (tt, tt)
after_ascending e i (f ∷ es) h =
    let n = cond_none (is_less (order (key e) (key f))) (misplaced_after f (suc i) es) i h in
    ascending_cons e f es (is_less_true (order (key e) (key f)) n.0) (after_ascending f (suc i) es n.1)

pub misplaced_ascending : (es : List Octets) → misplaced es ≡ none → Ascending es
unfolding misplaced
misplaced_ascending [] h = tt
misplaced_ascending (e ∷ es) h = after_ascending e 1 es h

ascending_after : (e : Octets) (i : ℕ) (es : List Octets) → Ascending (e ∷ es) → misplaced_after e i es ≡ none
unfolding misplaced_after
ascending_after e i [] h = refl
ascending_after e i (f ∷ es) h = rw h.0.0 (ascending_after f (suc i) es h.1)

pub ascending_misplaced : (es : List Octets) → Ascending es → misplaced es ≡ none
unfolding misplaced
ascending_misplaced [] h = refl
ascending_misplaced (e ∷ es) h = ascending_after e 1 es h

-- By the index: of the entries from index i on, and the one before them, the first misplaced is the whole list's

pub misplaced_start : (es : List Octets) → 0 < length es → misplaced es ≡ misplaced_after (get_or es 0 []) 1 (drop 1 es)
unfolding misplaced
misplaced_start [] h = absurd (not-suc-le-zero h)
misplaced_start (e ∷ es) h = refl

pub misplaced_end : (es : List Octets) (e : Octets) (i : ℕ) → length es ≤ i → misplaced_after e i (drop i es) ≡ none
unfolding misplaced_after
misplaced_end es e i h = rw (drop_of_length-le es h)

module _ (es : List Octets) (e : Octets) (i : ℕ) (h : i < length es) where
  pub misplaced_turn : is_less (order (key e) (key (get_or es i []))) ≡ true
      → misplaced_after e i (drop i es) ≡ misplaced_after (get_or es i []) (suc i) (drop (suc i) es)
  unfolding misplaced_after
  misplaced_turn t = rw (drop-cons es i [] h, t)

  pub misplaced_stop : is_less (order (key e) (key (get_or es i []))) ≡ false → misplaced_after e i (drop i es) ≡ some i
  unfolding misplaced_after
  misplaced_stop t = rw (drop-cons es i [] h, t)

-- The index of a misplaced entry is one of the list's

after_below : (e : Octets) (i : ℕ) (es : List Octets) (j : ℕ) → misplaced_after e i es ≡ some j → j < i + length es
unfolding misplaced_after
after_below e i [] j h = let z : ◌≡◌ {A = ℕ} 0 1 = cc in absurd (omega arith)
after_below e i (f ∷ es) j h = go (is_less (order (key e) (key f))) (after_below f (suc i) es j) h
  where
    go : (b : Bool) → (misplaced_after f (suc i) es ≡ some j → j < suc i + length es) → cond b (misplaced_after f (suc i) es) (some i) ≡ some j
        → j < i + suc (length es)
    go true g k = omega (arith, g k)
    go false g k = let e : i ≡ j = cc in omega arith

pub misplaced_below : (es : List Octets) (j : ℕ) → misplaced es ≡ some j → j < length es
unfolding misplaced
misplaced_below [] j h = let z : ◌≡◌ {A = ℕ} 0 1 = cc in absurd (omega arith)
misplaced_below (e ∷ es) j h = omega (arith, after_below e 1 es j h)

-- The four refusals, and what is left

module _ (w most : ℕ) (s : Octets) where
  pub admit_no_keys : length s ≡ 0 → admit w most s ≡ refused no_keys 0
  unfolding admit
  admit_no_keys e = rw e

  module _ (some_octet : 0 < length s) where
    pub admit_ragged : 0 < length s % w → admit w most s ≡ refused ragged 0
    unfolding admit
    admit_ragged r = rw (ne_eqb (length s) 0 (λ e. omega arith), lt-ltb 0 (length s % w) r)

    module _ (whole : length s % w ≡ 0) where
      pub admit_too_many : most < length s / w → admit w most s ≡ refused too_many 0
      unfolding admit
      admit_too_many m = rw (ne_eqb (length s) 0 (λ e. omega arith), whole, lt-ltb most (length s / w) m)

      pub admit_sound : length s / w ≤ most
          → admit w most s ≡ sound (misplaced (entries w (length s / w) s)) (entries w (length s / w) s)
      unfolding admit
      admit_sound m = rw (ne_eqb (length s) 0 (λ e. omega arith), whole, le-ltb most (length s / w) m)

-- What is admitted

-- es is an accepted list, and it is all of the octets s, w at a time
pub record Admitted (w most : ℕ) (s : Octets) (es : List Octets) : Type 0 where
  pub listing : Listing w most es
  pub whole : flatten es ≡ s
  pub parts : es ≡ entries w (length s / w) s

sound_admitted : (o : Option ℕ) (es fs : List Octets) → sound o es ≡ admitted fs → (o ≡ none) × (es ≡ fs)
unfolding sound
sound_admitted none es fs e = (refl, cc)
sound_admitted (some i) es fs e = (cc, cc)

quotient_positive : (n q w : ℕ) → n ≡ q * w → (n ≡ 0 → ⊥) → 0 < q
quotient_positive n zero w e h = absurd (h (omega arith))
quotient_positive n (suc q) w e h = omega arith

pub admit_admitted : (w most : ℕ) (s : Octets) (es : List Octets) → admit w most s ≡ admitted es → Admitted w most s es
unfolding admit
admit_admitted w most s es h =
    go (eqb (length s) 0) (ltb 0 (length s % w)) (ltb most (length s / w)) refl refl refl h
  where
    all : List Octets
    all = entries w (length s / w) s

    go : (a b c : Bool) → eqb (length s) 0 ≡ a → ltb 0 (length s % w) ≡ b → ltb most (length s / w) ≡ c
        → cond a (refused no_keys 0) (cond b (refused ragged 0) (cond c (refused too_many 0) (sound (misplaced all) all))) ≡ admitted es
        → Admitted w most s es
    go true b c p q r e = let z : ◌≡◌ {A = ℕ} 0 1 = cc in absurd (omega arith)
    go false true c p q r e = let z : ◌≡◌ {A = ℕ} 0 1 = cc in absurd (omega arith)
    go false false true p q r e = let z : ◌≡◌ {A = ℕ} 0 1 = cc in absurd (omega arith)
    go false false false p q r e =
        let f = sound_admitted (misplaced all) all es e in
        let n : length all ≡ length s / w = entries_length w (length s / w) s in
        let m : length s ≡ length s / w * w = omega (arith, div-add-mod' (length s) w, ltb-false 0 (length s % w) q) in
        subst (Admitted w most s) f.1 (record {
          listing = record {
            some_entry = rw n (quotient_positive (length s) (length s / w) w m (eqb-false (length s) 0 p));
            few = rw n (ltb-false most (length s / w) r);
            sized = entries_sized w (length s / w) s m;
            ascending = misplaced_ascending all f.0;
          };
          whole = entries_whole w (length s / w) s m;
          parts = refl;
        })

pub listing_admitted : (w most : ℕ) (es : List Octets) → 0 < w → Listing w most es → admit w most (flatten es) ≡ admitted es
unfolding sound
listing_admitted w most es positive l =
    let n : length (flatten es) ≡ length es * w = flatten_length w es l.sized in
    let some_octet : 0 < length (flatten es) = rw n (mul-pos l.some_entry positive) in
    let whole : length (flatten es) % w ≡ 0 = rw n (mul-mod_left (length es) w) in
    let count : length (flatten es) / w ≡ length es = rw n (mul-div_left (length es) positive) in
    admit_sound w most (flatten es) some_octet whole (rw count l.few)
    ∙ rw (count, entries_flatten w es l.sized, ascending_misplaced es l.ascending)

-- a list that is admitted, or a refusal with its number and the index of one of at most `most` entries, or 0
abbrev AdmittedWithin : ℕ → Admission → Type 0
AdmittedWithin most (admitted es) = Unit {0}
AdmittedWithin most (refused m p) = IsRefusal m × (p ≤ most - 1)

admit_within : (w most : ℕ) (s : Octets) → AdmittedWithin most (admit w most s)
unfolding admit sound
admit_within w most s = go (eqb (length s) 0) (ltb 0 (length s % w)) (ltb most (length s / w)) (misplaced all) refl refl
  where
    all : List Octets
    all = entries w (length s / w) s

    go : (a b c : Bool) (o : Option ℕ) → ltb most (length s / w) ≡ c → misplaced all ≡ o
        → AdmittedWithin most (cond a (refused no_keys 0) (cond b (refused ragged 0) (cond c (refused too_many 0) (sound o all))))
    go true b c o e f = ((omega arith, omega arith), omega arith)
    go false true c o e f = ((omega arith, omega arith), omega arith)
    go false false true o e f = ((omega arith, omega arith), omega arith)
    go false false false none e f = tt
    go false false false (some i) e f =
        let few = ltb-false most (length s / w) e in
        ((omega arith, omega arith), omega (arith, misplaced_below all i f, entries_length w (length s / w) s))

pub admit_refused : (w most : ℕ) (s : Octets) (m p : ℕ) → admit w most s ≡ refused m p → IsRefusal m × (p ≤ most - 1)
admit_refused w most s m p e = rw e at (admit_within w most s)
