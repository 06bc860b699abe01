-- A node record has one length, and tells its parts: octet 0 tells which children there are, and then each part stands
-- at a known place.
use mathlib.Core.Path.{◌≡◌, refl, sym, ap, ◌∙◌}
use mathlib.Core.List.{◌++◌}
use mathlib.Core.Option.{none, some}
use Prim.Native.Nat.{ℕ, ◌+◌, ◌≤◌}
use native.Mathlib.Omega.{arith}
use lib.ListN.{length, take, drop, length-append, length-replicate}
use lib.Seq.{take_at, drop_at}
use Rattle.octets.specs.Order.{Octets}
use Rattle.attester.specs.Record.{Child, bit, flag, child_octets, node_record}
use Rattle.attester.proofs.Sizes.{Labelled}

pub child_octets_length : (c : Child) → Labelled c → length (child_octets c) ≡ 32
unfolding child_octets
child_octets_length none h = length-replicate {A = ℕ} 32 0
child_octets_length (some l) h = h

pub bit_most : (c : Child) → bit c ≤ 1
bit_most none = omega arith
bit_most (some l) = omega arith

pub record_length : (w : ℕ) (l : Child) (e : Octets) (r : Child) → Labelled l → length e ≡ w → Labelled r
    → length (node_record l e r) ≡ 1 + 32 + w + 32
unfolding node_record
record_length w l e r f n g =
    rw (length-append (child_octets l) (e ++ child_octets r), length-append e (child_octets r), child_octets_length l f, child_octets_length r g, n)
    (omega arith)

append_injective : (a b c d : Octets) (n : ℕ) → length a ≡ n → length c ≡ n → a ++ b ≡ c ++ d → (a ≡ c) × (b ≡ d)
append_injective a b c d n p q e =
    (sym (take_at a b n p) ∙ (ap (take n) e ∙ take_at c d n q), sym (drop_at a b n p) ∙ (ap (drop n) e ∙ drop_at c d n q))

-- octet 0 tells which children there are
flag_injective : (l r l' r' : Child) → flag l r ≡ flag l' r' → (bit l ≡ bit l') × (bit r ≡ bit r')
unfolding flag
flag_injective l r l' r' e =
    let b : (bit l ≤ 1) × (bit r ≤ 1) × (bit l' ≤ 1) × (bit r' ≤ 1) = (bit_most l, bit_most r, bit_most l', bit_most r') in
    (omega arith, omega arith)

-- a child is its bit and its octets: none is unlike some, even for a label of zeros
child_injective : (a b : Child) → bit a ≡ bit b → child_octets a ≡ child_octets b → a ≡ b
unfolding child_octets
child_injective none none e h = refl
child_injective none (some l) e h = absurd (omega arith)
child_injective (some l) none e h = absurd (omega arith)
child_injective (some l) (some m) e h = ap some h

pub record SameParts (l : Child) (e : Octets) (r l' : Child) (e' : Octets) (r' : Child) : Type 0 where
  pub left : l ≡ l'
  pub entry : e ≡ e'
  pub right : r ≡ r'

pub record_injective : (l : Child) (e : Octets) (r l' : Child) (e' : Octets) (r' : Child)
    → Labelled l → Labelled l' → length e ≡ length e' → node_record l e r ≡ node_record l' e' r' → SameParts l e r l' e' r'
unfolding node_record
record_injective l e r l' e' r' f f' n same =
    let flags : flag l r ≡ flag l' r' = cc in
    let bits = flag_injective l r l' r' flags in
    let rest : child_octets l ++ (e ++ child_octets r) ≡ child_octets l' ++ (e' ++ child_octets r') = cc in
    let a =
    append_injective (child_octets l) (e ++ child_octets r) (child_octets l') (e' ++ child_octets r') 32
    (child_octets_length l f) (child_octets_length l' f') rest in
    let b = append_injective e (child_octets r) e' (child_octets r') (length e') n refl a.1 in
    record {
      left = child_injective l l' bits.0 a.0;
      entry = b.0;
      right = child_injective r r' bits.1 b.1;
    }
