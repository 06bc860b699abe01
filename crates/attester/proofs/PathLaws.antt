-- A path and its four sections say the same: the sections have their lengths, and they give the path back.
use mathlib.Core.Path.{◌≡◌, refl, sym, ◌∙◌}
use mathlib.Core.List.{List, [], ◌∷◌, ◌++◌, append_assoc, append-nil}
use Prim.Native.Nat.{ℕ, suc}
use native.Mathlib.Omega.{arith}
use lib.ListN.{length, length-append}
use Rattle.octets.specs.Order.{Octets}
use Rattle.attester.specs.Record.{Child}
use Rattle.attester.specs.Path.{Path, foot, step, foot_entry, foot_left, foot_right, height, keys, siblings}
use Rattle.attester.specs.Form.{climb, path_of}
use Rattle.attester.proofs.Sizes.{Labelled, Throughout, Sized}
use Rattle.attester.proofs.ReaderLaws.{All, all_append}

pub keys_length : (p : Path) → length (keys p) ≡ suc (height p)
unfolding keys height
keys_length (foot e l r) = refl
keys_length (step e s p) = simp length-append (omega (arith, keys_length p))

pub siblings_length : (p : Path) → length (siblings p) ≡ height p
unfolding siblings height
siblings_length (foot e l r) = refl
siblings_length (step e s p) = simp length-append (omega (arith, siblings_length p))

-- What holds throughout a path holds in each section

module _ (P : Octets → Type 0) (Q : Child → Type 0) where
  pub throughout_keys : (p : Path) → Throughout P Q p → All P (keys p)
  unfolding keys
  throughout_keys (foot e l r) h = (h.0, tt)
  throughout_keys (step e s p) h = all_append P (keys p) (e ∷ []) (throughout_keys p h.2) (h.0, tt)

  pub throughout_siblings : (p : Path) → Throughout P Q p → All Q (siblings p)
  unfolding siblings
  throughout_siblings (foot e l r) h = tt
  throughout_siblings (step e s p) h = all_append Q (siblings p) (s ∷ []) (throughout_siblings p h.2) (h.1, tt)

  pub throughout_left : (p : Path) → Throughout P Q p → Q (foot_left p)
  unfolding foot_left
  throughout_left (foot e l r) h = h.1
  throughout_left (step e s p) h = throughout_left p h.2

  pub throughout_right : (p : Path) → Throughout P Q p → Q (foot_right p)
  unfolding foot_right
  throughout_right (foot e l r) h = h.2
  throughout_right (step e s p) h = throughout_right p h.2

module _ (w : ℕ) where
  pub sized_left : (p : Path) → Sized w p → Labelled (foot_left p)
  sized_left = throughout_left (λ e. length e ≡ w) Labelled

  pub sized_right : (p : Path) → Sized w p → Labelled (foot_right p)
  sized_right = throughout_right (λ e. length e ≡ w) Labelled

-- Climbing

pub climb_append : (p : Path) (es : List Octets) (ss : List Child) (e : Octets) (s : Child) → length es ≡ length ss
    → climb p (es ++ (e ∷ [])) (ss ++ (s ∷ [])) ≡ step e s (climb p es ss)
unfolding climb
climb_append p [] [] e s h = refl
climb_append p [] (s₁ ∷ ss) e s h = absurd (omega arith)
climb_append p (e₁ ∷ es) [] e s h = absurd (omega arith)
climb_append p (e₁ ∷ es) (s₁ ∷ ss) e s h = climb_append (step e₁ s₁ p) es ss e s (omega arith)

path_of_append : (es : List Octets) (l r : Child) (ss : List Child) (e : Octets) (s : Child) → length es ≡ suc (length ss)
    → path_of (es ++ (e ∷ [])) l r (ss ++ (s ∷ [])) ≡ step e s (path_of es l r ss)
path_of_append [] l r ss e s h = absurd (omega arith)
path_of_append (e₀ ∷ es) l r ss e s h = climb_append (foot e₀ l r) es ss e s (omega arith)

pub path_of_sections : (p : Path) → path_of (keys p) (foot_left p) (foot_right p) (siblings p) ≡ p
unfolding keys siblings foot_left foot_right climb
path_of_sections (foot e l r) = refl
path_of_sections (step e s p) =
    rw (path_of_append (keys p) (foot_left p) (foot_right p) (siblings p) e s (omega (arith, keys_length p, siblings_length p)), path_of_sections p)

pub keys_climb : (p : Path) (es : List Octets) (ss : List Child) → length es ≡ length ss → keys (climb p es ss) ≡ keys p ++ es
unfolding climb keys
keys_climb p [] ss h = sym (append-nil (keys p))
keys_climb p (e ∷ es) [] h = absurd (omega arith)
keys_climb p (e ∷ es) (s ∷ ss) h = keys_climb (step e s p) es ss (omega arith) ∙ append_assoc (keys p) (e ∷ []) es

pub siblings_climb : (p : Path) (es : List Octets) (ss : List Child) → length es ≡ length ss → siblings (climb p es ss) ≡ siblings p ++ ss
unfolding climb siblings
siblings_climb p [] [] h = sym (append-nil (siblings p))
siblings_climb p [] (s ∷ ss) h = absurd (omega arith)
siblings_climb p (e ∷ es) [] h = absurd (omega arith)
siblings_climb p (e ∷ es) (s ∷ ss) h = siblings_climb (step e s p) es ss (omega arith) ∙ append_assoc (siblings p) (s ∷ []) ss

pub foot_entry_climb : (p : Path) (es : List Octets) (ss : List Child) → foot_entry (climb p es ss) ≡ foot_entry p
unfolding climb foot_entry
foot_entry_climb p [] ss = refl
foot_entry_climb p (e ∷ es) [] = refl
foot_entry_climb p (e ∷ es) (s ∷ ss) = foot_entry_climb (step e s p) es ss

pub foot_left_climb : (p : Path) (es : List Octets) (ss : List Child) → foot_left (climb p es ss) ≡ foot_left p
unfolding climb foot_left
foot_left_climb p [] ss = refl
foot_left_climb p (e ∷ es) [] = refl
foot_left_climb p (e ∷ es) (s ∷ ss) = foot_left_climb (step e s p) es ss

pub foot_right_climb : (p : Path) (es : List Octets) (ss : List Child) → foot_right (climb p es ss) ≡ foot_right p
unfolding climb foot_right
foot_right_climb p [] ss = refl
foot_right_climb p (e ∷ es) [] = refl
foot_right_climb p (e ∷ es) (s ∷ ss) = foot_right_climb (step e s p) es ss

pub sized_climb : (w : ℕ) (p : Path) (es : List Octets) (ss : List Child)
    → Sized w p → All (λ e. length e ≡ w) es → All Labelled ss → Sized w (climb p es ss)
unfolding climb
sized_climb w p [] ss z a b = z
sized_climb w p (e ∷ es) [] z a b = z
sized_climb w p (e ∷ es) (s ∷ ss) z a b = sized_climb w (step e s p) es ss (a.0, b.0, z) a.1 b.1
