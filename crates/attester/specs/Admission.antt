-- Admission of a key list: its entries, or refusal 2, 3, 4 or 5 (01, "Numbers a caller can meet").
use Rattle.std.specs.Prelude.{cond, List, [], ◌∷◌, ℕ, suc, ◌/◌, ◌%◌, eqb, ltb, length}
use Rattle.std.proofs.Math.Option.{Option, none, some}
use Rattle.answer.specs.Refusals.{no_keys, ragged, too_many, not_ascending}
use Rattle.octets.specs.Order.{Octets, order, is_less}
use Rattle.attester.specs.Entry.{key, entries}

-- the entries, or the refusal's number and place
pub data Admission : Type 0 where
  admitted : List Octets → Admission
  refused : ℕ → ℕ → Admission

-- the index of the first key not above the one before; e stands before index i, where es begins
unfoldable pub misplaced_after : Octets → ℕ → List Octets → Option ℕ
misplaced_after e i [] = none
misplaced_after e i (f ∷ es) = cond (is_less (order (key e) (key f))) (misplaced_after f (suc i) es) (some i)

-- 01, number 5: the "index, from 0, of the first key not above the one before"
unfoldable pub misplaced : List Octets → Option ℕ
misplaced [] = none
misplaced (e ∷ es) = misplaced_after e 1 es

-- entries none of which is misplaced are admitted
unfoldable pub sound : Option ℕ → List Octets → Admission
sound none es = admitted es
sound (some i) es = refused not_ascending i

-- 01: no keys (2), not a multiple of an entry's octets (3), over `most` keys (4), not strictly ascending (5), in that order
unfoldable pub admit : ℕ → ℕ → Octets → Admission
admit w most s =
    cond (eqb (length s) 0) (refused no_keys 0)
    (cond (ltb 0 (length s % w)) (refused ragged 0)
    (cond (ltb most (length s / w)) (refused too_many 0)
    (sound (misplaced (entries w (length s / w) s)) (entries w (length s / w) s))))
