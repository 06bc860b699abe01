-- The line at the front of a text, as the library's search for its LF finds it.
use mathlib.Core.Path.{◌≡◌, refl}
use mathlib.Core.Bool.{Bool, true, false, cond}
use Prim.Native.Nat.{ℕ, suc, ◌+◌}
use native.Mathlib.Numerals.{add-one, one-add}
use lib.Dec.{ltb, eqb}
use lib.ListN.{length, take, drop}
use Rattle.std.specs.Prelude.{Option, Some, None}
use Rattle.std.specs.List.{position_or_len}
use Rattle.std.proofs.lemmas.List.Recursion.{is_position_or_len}
use Rattle.octets.specs.Order.{Octets}
use Rattle.codes.specs.Text.{before_LF, ended, line, rest}

-- what the library's search for LF finds
pub LF_found : (s : Octets) (r : Option ℕ)
    → r ≡ cond (ltb (position_or_len (λ c. eqb c 10) s) (length s)) (Some (position_or_len (λ c. eqb c 10) s)) None
    → r ≡ cond (ended s) (Some (before_LF s)) None
unfolding ended before_LF
LF_found s r e = rw (is_position_or_len before_LF (λ c. eqb c 10) refl (λ c t. rw (one-add (before_LF t))) s) e

pub split_none : (s : Octets) → None ≡ cond (ended s) (Some (before_LF s)) None → ended s ≡ false
split_none s = go (ended s)
  where
    go : (b : Bool) → None ≡ cond b (Some (before_LF s)) None → b ≡ false
    go true e = cc
    go false e = refl

pub split_some : (s : Octets) (end : ℕ) → Some end ≡ cond (ended s) (Some (before_LF s)) None
    → (ended s ≡ true) × (take end s ≡ line s) × (drop (end + 1) s ≡ rest s)
unfolding line rest
split_some s end = go (ended s)
  where
    go : (b : Bool) → Some end ≡ cond b (Some (before_LF s)) None
        → (b ≡ true) × (take end s ≡ take (before_LF s) s) × (drop (end + 1) s ≡ drop (suc (before_LF s)) s)
    go true e = let k : end ≡ before_LF s = cc in (refl, rw k, rw (k, add-one))
    go false e = cc
