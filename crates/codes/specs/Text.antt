-- 01, "The list as text": the text's form, with each refusal and its place, in document 01's order.
use Rattle.std.specs.Prelude.{Bool, true, cond, ◌&&◌, List, [], ◌∷◌, ℕ, zero, suc, ◌*◌, ltb, eqb, length, take, drop}
use Rattle.std.proofs.Math.Option.{Option, none, some}
use Rattle.answer.specs.Refusals.{size, no_keys, too_many, not_ascending, too_short, head, not_a_code, lines}
use Rattle.octets.specs.Order.{Octets, order, same, is_less}
use Rattle.codes.specs.Code.{is_code, key_of}
use Rattle.codes.specs.Count.{is_count, number}

-- the keys of an accepted text, or the refusal's number and place
pub data Reading : Type 0 where
  accepted : List Octets → Reading
  refused : ℕ → ℕ → Reading

-- "Each line ends in one LF (0A)": how many octets stand before the first LF, or before the end where there is none
unfoldable pub before_LF : Octets → ℕ
before_LF [] = 0
before_LF (c ∷ s) = cond (eqb c 10) 0 (suc (before_LF s))

-- is the line at the front of the text ended by LF?
unfoldable pub ended : Octets → Bool
ended s = ltb (before_LF s) (length s)

-- the line at the front of the text, without its LF
unfoldable pub line : Octets → Octets
line s = take (before_LF s) s

-- what follows its LF
unfoldable pub rest : Octets → Octets
rest s = drop (suc (before_LF s)) s

-- "keys strictly ascending": above the key before, where there is one
unfoldable pub above : Option Octets → Octets → Bool
above none k = true
above (some b) k = is_less (order b k)

-- the refusal that the line at the front meets, or 0: "no LF before the end of the text, or no line at all (14), not a code (13), not above the code before (5)"
unfoldable pub fault : Option Octets → Octets → ℕ
fault before s = cond (ended s) (cond (is_code (line s)) (cond (above before (key_of (line s))) 0 not_ascending) not_a_code) lines

-- one key more in front
unfoldable pub more : Octets → Reading → Reading
more k (accepted ks) = accepted (k ∷ ks)
more k (refused m p) = refused m p

-- n lines, one code each, the first of them line number p; "last, octets left over (14)"
unfoldable pub codes : ℕ → ℕ → Option Octets → Octets → Reading
codes zero p before [] = accepted []
codes zero p before (c ∷ s) = refused lines p
codes (suc n) p before s =
    cond (eqb (fault before s) 0)
    (more (key_of (line s)) (codes n (suc p) (some (key_of (line s))) (rest s)))
    (refused (fault before s) p)

-- "count 0 (2); count over 3,000 (4); buffer shorter than 20 times the count (6); then line by line"
unfoldable pub counted : ℕ → ℕ → Octets → Reading
counted room n s =
    cond (eqb n 0) (refused no_keys 2)
    (cond (ltb 3000 n) (refused too_many 2)
    (cond (ltb room (20 * n)) (refused too_short 0)
    (codes n 3 none s)))

-- the second line: the count
unfoldable pub second_line : ℕ → Octets → Reading
second_line room s = cond (ended s && is_count (line s)) (counted room (number (line s)) (rest s)) (refused head 2)

-- "The first line is exactly `codes`", and its LF
unfoldable pub opening : Octets
opening = 99 ∷ 111 ∷ 100 ∷ 101 ∷ 115 ∷ 10 ∷ []

-- the reading of a text into a buffer of `room` octets: "text too long (1); first or second line malformed or not ended by LF (12)"
unfoldable pub reading : ℕ → Octets → Reading
reading room s =
    cond (ltb 65535 (length s)) (refused size 0)
    (cond (same (take 6 s) opening) (second_line room (drop 6 s))
    (refused head 1))
