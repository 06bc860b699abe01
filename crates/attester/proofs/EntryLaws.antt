-- The entries of a key list: how many, how long, which part of the octets each is, and that together they are the octets.
use mathlib.Core.Path.{◌≡◌, refl, sym, ap}
use mathlib.Core.List.{List, [], ◌∷◌, flatten}
use Prim.Native.Nat.{ℕ, zero, suc, ◌+◌, ◌-◌, ◌*◌, ◌≤◌, ◌<◌}
use native.Mathlib.Nat.{not-suc-le-zero}
use native.Mathlib.Omega.{arith}
use lib.ListN.{length, take, drop, get_or, length-append, length-take, length-drop, take-append-drop}
use lib.Seq.{drop-drop, take_at, drop_at, take-take, take-nil}
use Rattle.octets.specs.Order.{Octets}
use Rattle.attester.specs.Entry.{entries}
use Rattle.attester.specs.Listing.{Each}

pub entries_length : (w n : ℕ) (s : Octets) → length (entries w n s) ≡ n
unfolding entries
entries_length w zero s = refl
entries_length w (suc n) s = ap suc (entries_length w n (drop w s))

pub entries_take : (w h n : ℕ) (s : Octets) → h ≤ n → take h (entries w n s) ≡ entries w h s
unfolding entries
entries_take w zero zero s p = refl
entries_take w zero (suc n) s p = refl
entries_take w (suc h) zero s p = absurd (not-suc-le-zero p)
entries_take w (suc h) (suc n) s p = ap (λ l. take w s ∷ l) (entries_take w h n (drop w s) (omega arith))

pub entries_drop : (w h n : ℕ) (s : Octets) → h ≤ n → drop h (entries w n s) ≡ entries w (n - h) (drop (h * w) s)
unfolding entries
entries_drop w zero n s p =
    let e : 0 * w ≡ 0 = omega arith in
    let f : n - 0 ≡ n = omega arith in
    rw (e, f)
entries_drop w (suc h) zero s p = absurd (not-suc-le-zero p)
entries_drop w (suc h) (suc n) s p =
    let e : suc h * w ≡ w + h * w = omega arith in
    let f : suc n - suc h ≡ n - h = omega arith in
    rw (e, f, ← drop-drop (h * w) w s) (entries_drop w h n (drop w s) (omega arith))

pub entries_at : (w j n : ℕ) (s : Octets) → j < n → get_or (entries w n s) j [] ≡ take w (drop (j * w) s)
unfolding entries
entries_at w zero zero s p = absurd (not-suc-le-zero p)
entries_at w zero (suc n) s p = let e : 0 * w ≡ 0 = omega arith in rw e
entries_at w (suc j) zero s p = absurd (not-suc-le-zero p)
entries_at w (suc j) (suc n) s p =
    let e : suc j * w ≡ w + j * w = omega arith in
    rw (e, ← drop-drop (j * w) w s) (entries_at w j n (drop w s) (omega arith))

drop_take : (n m : ℕ) (s : Octets) → drop n (take m s) ≡ take (m - n) (drop n s)
drop_take zero m s = let z : m - 0 ≡ m = omega arith in rw z
drop_take (suc n) zero s = let z : 0 - suc n ≡ 0 = omega arith in rw z
drop_take (suc n) (suc m) [] = sym (take-nil (suc m - suc n))
drop_take (suc n) (suc m) (a ∷ s) = let z : suc m - suc n ≡ m - n = omega arith in rw z (drop_take n m s)

-- octets beyond the n-th entry do not count
pub entries_front : (w n m : ℕ) (s : Octets) → n * w ≤ m → entries w n (take m s) ≡ entries w n s
unfolding entries
entries_front w zero m s p = refl
entries_front w (suc n) m s p =
    rw (take-take w m s (omega arith), drop_take w m s) (ap (λ l. take w s ∷ l) (entries_front w n (m - w) (drop w s) (omega arith)))

pub entries_sized : (w n : ℕ) (s : Octets) → length s ≡ n * w → Each (λ e. length e ≡ w) (entries w n s)
unfolding entries
entries_sized w zero s h = tt
entries_sized w (suc n) s h = (simp length-take (omega arith), entries_sized w n (drop w s) (simp length-drop (omega arith)))

-- nothing is skipped: the entries of whole octets are those octets
pub entries_whole : (w n : ℕ) (s : Octets) → length s ≡ n * w → flatten (entries w n s) ≡ s
unfolding entries flatten
entries_whole w zero [] h = refl
entries_whole w zero (a ∷ s) h = absurd (omega arith)
entries_whole w (suc n) s h = rw (entries_whole w n (drop w s) (simp length-drop (omega arith))) (take-append-drop w s)

pub flatten_length : (w : ℕ) (es : List Octets) → Each (λ e. length e ≡ w) es → length (flatten es) ≡ length es * w
unfolding flatten
flatten_length w [] h = omega arith
flatten_length w (e ∷ es) h = rw (length-append e (flatten es), flatten_length w es h.1, h.0) (omega arith)

-- and the octets of whole entries have those entries
pub entries_flatten : (w : ℕ) (es : List Octets) → Each (λ e. length e ≡ w) es → entries w (length es) (flatten es) ≡ es
unfolding entries flatten
entries_flatten w [] h = refl
entries_flatten w (e ∷ es) h =
    rw (take_at e (flatten es) w h.0, drop_at e (flatten es) w h.0) (ap (λ l. e ∷ l) (entries_flatten w es h.1))
