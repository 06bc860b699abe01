-- Writes at a running offset: one after another they are the write of both.
use mathlib.Core.Path.{◌≡◌, sym, ap, ◌∙◌}
use mathlib.Core.List.{[], ◌++◌, append_assoc, append-nil}
use Prim.Native.Nat.{ℕ, ◌+◌, ◌≤◌}
use native.Mathlib.Nat.{add-zero, add_assoc}
use native.Mathlib.Omega.{arith}
use lib.ListN.{length, take, drop, length-append, length-drop, take-append-drop}
use lib.Seq.{take_at, drop_at, drop-drop, length-take-le, take-length, drop-length, paste}
use Rattle.octets.specs.Order.{Octets}
use Rattle.octets.specs.Put.{put, Wrote}

pub put_length : (d : Octets) (at : ℕ) (s : Octets) → at + length s ≤ length d → length (put d at s) ≡ length d
unfolding put
put_length d at s h =
    let k : at ≤ length d = omega arith in
    simp (length-append, length-drop, length-take-le) (omega arith)

pub put_none : (d : Octets) (at : ℕ) → put d at [] ≡ d
unfolding put
put_none d at = rw (add-zero, append-nil) (take-append-drop at d)

-- `lib.Seq`'s copy, whole
pub put_paste : (d : Octets) (at : ℕ) (s : Octets) → paste d at s (length s) ≡ put d at s
unfolding put
put_paste d at s = rw take-length

pub put_put : (d : Octets) (at : ℕ) (s t : Octets) → at + length s ≤ length d → put (put d at s) (at + length s) t ≡ put d at (s ++ t)
unfolding put
put_put d at s t h =
    let k : at ≤ length d = omega arith in
    let p : Octets = take at d ++ s in
    let q : Octets = drop (at + length s) d in
    let n : length p ≡ at + length s = simp (length-append, length-take-le) in
    let m : at + length s + length t ≡ at + length (s ++ t) = simp (length-append, add_assoc) in
    let r : drop (at + length s + length t) (p ++ q) ≡ drop (at + length (s ++ t)) d =
    sym (drop-drop (length t) (at + length s) (p ++ q)) ∙ ap (drop (length t)) (drop_at p q (at + length s) n)
    ∙ drop-drop (length t) (at + length s) d ∙ ap (λ (i : ℕ). drop i d) m in
    rw (take_at p q (at + length s) n, r, append_assoc (take at d) s t)

-- a write up to the end
pub put_end : (d : Octets) (at : ℕ) (s : Octets) → at + length s ≡ length d → put d at s ≡ take at d ++ s
unfolding put
put_end d at s h = rw (h, drop-length d) (append-nil _)

-- a write at the front
pub put_front : (d s : Octets) → put d 0 s ≡ s ++ drop (length s) d
unfolding put
put_front d s = let z : 0 + length s ≡ length s = omega arith in rw z

pub wrote_none : (d : Octets) (a : ℕ) → Wrote d a [] d a
wrote_none d a = record { ends = sym (add-zero a); left = sym (put_none d a) }

-- a write where the last one ended
pub wrote_more : {d w s cur o : Octets} {a at r : ℕ} → Wrote d a w cur at → Wrote cur at s o r → a + length w + length s ≤ length d → Wrote d a (w ++ s) o r
wrote_more {d} {w} {s} {cur} {o} {a} {at} {r} h x fits =
    let k : a + length w ≤ length d = omega arith in
    record {
      ends = x.ends ∙ rw (h.ends, length-append, add_assoc);
      left = x.left ∙ rw (h.left, h.ends) (put_put d a w s k);
    }

-- the length of what is written into stays
pub wrote_length : {d w o : Octets} {a r : ℕ} → Wrote d a w o r → a + length w ≤ length d → length o ≡ length d
wrote_length {d} {w} {o} {a} {r} h f = ap length h.left ∙ put_length d a w f
