-- What octets of the form show, in the code's terms: which octet stands where.
use Rattle.std.specs.Prelude.{◌≡◌, cond, ℕ, suc, ◌+◌, ◌*◌, eqb, take, drop, get_or}
use Rattle.std.proofs.Math.Option.{Option, none, some}
use Rattle.std.specs.Prelude as code
use Rattle.octets.specs.Order.{Octets}
use Rattle.attester.specs.Record.{Child}
use Rattle.attester.specs.Path.{Path}
use Rattle.attester.specs.Form.{formed}
use Rattle.attester.specs.Form as form
use Rattle.tree.specs.Edition.{width}

-- the path that the octets show
abbrev pub shown : Octets → Path
shown a = form.shown width a

-- the octets have the form
abbrev pub Formed : Octets → Type 0
Formed a = form.form width a ≡ formed (shown a)

-- 01: kj
abbrev pub key_at : Octets → ℕ → Octets
key_at a j = take 20 (drop (1 + 20 * j) a)

-- the optional label at an offset
abbrev pub child_at : Octets → ℕ → Child
child_at a at = cond (eqb (get_or a at 0) 0) none (some (take 32 (drop (suc at) a)))

-- the offset behind it
abbrev pub behind : Octets → ℕ → ℕ
behind a at = cond (eqb (get_or a at 0) 0) (suc at) (at + 33)

-- the offsets of the foot's left label, of its right one, and of the siblings' count
abbrev pub left_at : Octets → ℕ
left_at a = 1 + 20 * get_or a 0 0

abbrev pub right_at : Octets → ℕ
right_at a = behind a (left_at a)

abbrev pub count_at : Octets → ℕ
count_at a = behind a (right_at a)

-- a place that the code found, or that it found none
abbrev pub place : code.Option ℕ → Option ℕ
place (code.Some j) = some j
place code.None = none
