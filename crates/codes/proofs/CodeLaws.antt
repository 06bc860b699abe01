-- Hyphens are apart if no two neighbours are hyphens, the neighbours being what `windows` gives; and how long a key is.
use mathlib.Core.Path.{◌≡◌, ◌∙◌}
use mathlib.Core.Bool.{Bool, true, false, ◌&&◌, not, and-false}
use mathlib.Core.List.{List, [], ◌∷◌}
use Rattle.std.specs.Slice.Iter.{windows_rest, windows_size, windows_steps}
use Rattle.std.specs.declared.slice.Windows.{Windows}
use Rattle.std.specs.List.{list_any}
use Rattle.std.proofs.Common.{refl, subst, ap, eqb, ◌||◌, take, Some, None, Bor}
use Rattle.std.proofs.lemmas.Iterator.{YieldsList}
use Rattle.std.proofs.lemmas.Iterator.Splits.{YieldsList-from_shown_while}
use Prim.Native.Nat.{ℕ, ◌≤◌, ◌<◌}
use native.Mathlib.Omega.{arith}
use lib.ListN.{length, drop, get_or, length-append, length-replicate}
use Rattle.octets.specs.Order.{Octets}
use Rattle.codes.specs.Code.{hyphen, apart, key_of}

-- the neighbours in a string, two by two
abbrev pub pairs : Octets → List Octets
pairs [] = []
pairs (a ∷ []) = []
pairs (a ∷ b ∷ s) = (a ∷ b ∷ []) ∷ pairs (b ∷ s)

-- two hyphens and nothing else
unfoldable pub double : Octets → Bool
double w = eqb (length w) 2 && (hyphen (get_or w 0 0) && hyphen (get_or w 1 0))

abbrev Twos : Windows ℕ → Type 0
Twos s = windows_size s ≡ 2

pairs_none : (s : Octets) → length s < 2 → length (pairs s) ≡ 0
pairs_none [] h = refl
pairs_none (a ∷ []) h = refl
pairs_none (a ∷ b ∷ s) h = absurd (omega arith)

pairs_next : (s : Octets) → 2 ≤ length s → pairs s ≡ take 2 s ∷ pairs (drop 1 s)
pairs_next [] h = absurd (omega arith)
pairs_next (a ∷ []) h = absurd (omega arith)
pairs_next (a ∷ b ∷ s) h = refl

pub YieldsList-from_pairs : {s : Windows ℕ} (xs : Octets) → windows_rest s ≡ xs → windows_size s ≡ 2 → YieldsList windows_steps (λ w. w.now) s (pairs xs)
YieldsList-from_pairs {s} xs e h = subst (λ (ys : List Octets). YieldsList windows_steps (λ w. w.now) s ys) (ap pairs e)
    (YieldsList-from_shown_while windows_steps (λ w. w.now) (λ t. pairs (windows_rest t)) Twos none some s h)
  where
    none : (s t : Windows ℕ) → Twos s → windows_steps s None t → length (pairs (windows_rest s)) ≡ 0
    none s t k g = pairs_none (windows_rest s) (omega arith)

    some : (s : Windows ℕ) (x : Bor Octets) (t : Windows ℕ) → Twos s → windows_steps s (Some x) t → Twos t × (pairs (windows_rest s) ≡ x.now ∷ pairs (windows_rest t))
    some s x t k g = (g.0 ∙ k, rw (g.1.1, g.1.2, k) (pairs_next (windows_rest s) (omega arith)))

pub apart_is : (s : Octets) → not (list_any double (pairs s)) ≡ apart s
unfolding apart hyphen double
apart_is [] = refl
apart_is (a ∷ []) = rw (and-false (hyphen a))
apart_is (a ∷ b ∷ s) = rw (← apart_is (b ∷ s)) (go (hyphen a && hyphen b))
  where
    go : (x : Bool) → not (x || list_any double (pairs (b ∷ s))) ≡ not x && not (list_any double (pairs (b ∷ s)))
    go true = refl
    go false = refl

pub key_of_length : (s : Octets) → length s ≤ 20 → length (key_of s) ≡ 20
unfolding key_of
key_of_length s h = simp (length-append, length-replicate) (omega arith)
