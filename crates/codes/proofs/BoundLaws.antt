-- How many keys a reading has at most, and how far a refusal's line lies: n code lines from line p on are refused at line p + n at
-- most, where octets are left over, and a text that gets so far announced at most 3,000, from line 3 on.
use mathlib.Core.Path.{◌≡◌, refl, ap, ◌∙◌}
use mathlib.Core.Bool.{Bool, true, false, cond, ◌&&◌}
use mathlib.Core.List.{List, [], ◌∷◌}
use mathlib.Core.Option.{Option, none, some}
use Prim.Native.Nat.{ℕ, zero, suc, ◌+◌, ◌*◌, ◌≤◌}
use native.Mathlib.Omega.{arith}
use borrow.Author.Tests.{ltb-false, eqb-false}
use lib.Dec.{ltb, eqb}
use lib.ListN.{length, take, drop}
use Rattle.answer.specs.Refusals.{size, no_keys, too_many, not_ascending, too_short, head, not_a_code, lines, IsRefusal}
use Rattle.octets.specs.Order.{Octets, same}
use Rattle.codes.specs.Code.{is_code, key_of}
use Rattle.codes.specs.Count.{is_count, number}
use Rattle.codes.specs.Text.{Reading, accepted, refused, ended, line, rest, above, fault, more, codes, counted, second_line, opening, reading}
use Rattle.codes.proofs.AcceptedLaws.{reading_accepted, codes_sound, line_keys_length}

-- as many keys as were announced
pub reading_few : (room : ℕ) (s : Octets) (ks : List Octets) → reading room s ≡ accepted ks → length ks ≤ 3000
reading_few room s ks e =
    let a = reading_accepted room s e in
    let n = number (line (drop 6 s)) in
    let c = codes_sound n 3 none (rest (drop 6 s)) ks a.body in
    let many : length ks ≡ n = ap length c.1 ∙ line_keys_length n (rest (drop 6 s)) in
    omega (arith, a.few)

-- a refusal's number, and a place of at most q
abbrev RefusedBy : ℕ → Reading → Type 0
RefusedBy q (accepted ks) = Unit {0}
RefusedBy q (refused m p) = IsRefusal m × (p ≤ q)

refused_later : (q l : ℕ) (r : Reading) → q ≤ l → RefusedBy q r → RefusedBy l r
refused_later q l (accepted ks) h k = tt
refused_later q l (refused m p) h k = (k.0, omega (arith, k.1))

fault_number : (b : Option Octets) (s : Octets) → (fault b s ≡ 0 → ⊥) → IsRefusal (fault b s)
unfolding fault
fault_number b s = go (ended s) (is_code (line s)) (above b (key_of (line s)))
  where
    go : (x y z : Bool) → (cond x (cond y (cond z 0 not_ascending) not_a_code) lines ≡ 0 → ⊥)
        → IsRefusal (cond x (cond y (cond z 0 not_ascending) not_a_code) lines)
    go true true true h = absurd (h refl)
    go true true false h = (omega arith, omega arith)
    go true false z h = (omega arith, omega arith)
    go false y z h = (omega arith, omega arith)

refused_more : (k : Octets) (q : ℕ) (r : Reading) → RefusedBy q r → RefusedBy q (more k r)
unfolding more
refused_more k q (accepted ks) h = tt
refused_more k q (refused m p) h = h

-- n code lines from line p on
codes_refused : (n p : ℕ) (b : Option Octets) (s : Octets) → RefusedBy (p + n) (codes n p b s)
unfolding codes
codes_refused zero p b [] = tt
codes_refused zero p b (c ∷ s) = ((omega arith, omega arith), omega arith)
codes_refused (suc n) p b s =
    let others = codes n (suc p) (some (key_of (line s))) (rest s) in
    let later = refused_later (suc p + n) (p + suc n) others (omega arith) (codes_refused n (suc p) (some (key_of (line s))) (rest s)) in
    go (more (key_of (line s)) others) (eqb (fault b s) 0) refl (refused_more (key_of (line s)) (p + suc n) others later)
  where
    go : (r : Reading) (o : Bool) → eqb (fault b s) 0 ≡ o → RefusedBy (p + suc n) r → RefusedBy (p + suc n) (cond o r (refused (fault b s) p))
    go r true e h = h
    go r false e h = (fault_number b s (eqb-false (fault b s) 0 e), omega arith)

counted_refused : (room n : ℕ) (s : Octets) → RefusedBy 3003 (counted room n s)
unfolding counted
counted_refused room n s = go (eqb n 0) (ltb 3000 n) (ltb room (20 * n)) refl
  where
    go : (a b c : Bool) → ltb 3000 n ≡ b
        → RefusedBy 3003 (cond a (refused no_keys 2) (cond b (refused too_many 2) (cond c (refused too_short 0) (codes n 3 none s))))
    go true b c e = ((omega arith, omega arith), omega arith)
    go false true c e = ((omega arith, omega arith), omega arith)
    go false false true e = ((omega arith, omega arith), omega arith)
    go false false false e =
        let few : n ≤ 3000 = ltb-false 3000 n e in
        refused_later (3 + n) 3003 (codes n 3 none s) (omega arith) (codes_refused n 3 none s)

second_line_refused : (room : ℕ) (s : Octets) → RefusedBy 3003 (second_line room s)
unfolding second_line
second_line_refused room s = go (ended s && is_count (line s))
  where
    go : (o : Bool) → RefusedBy 3003 (cond o (counted room (number (line s)) (rest s)) (refused head 2))
    go true = counted_refused room (number (line s)) (rest s)
    go false = ((omega arith, omega arith), omega arith)

pub reading_refused : (room : ℕ) (s : Octets) (m p : ℕ) → reading room s ≡ refused m p → IsRefusal m × (p ≤ 3003)
unfolding reading
reading_refused room s m p e = rw e at (go (ltb 65535 (length s)) (same (take 6 s) opening))
  where
    go : (a b : Bool) → RefusedBy 3003 (cond a (refused size 0) (cond b (second_line room (drop 6 s)) (refused head 1)))
    go true b = ((omega arith, omega arith), omega arith)
    go false true = second_line_refused room (drop 6 s)
    go false false = ((omega arith, omega arith), omega arith)
