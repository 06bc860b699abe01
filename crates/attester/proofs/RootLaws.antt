-- What paths whose root records are the same have in common, of those that pass steps 3 and 4: a foot is like no node above a
-- foot, two feet are one, and two nodes above a foot have one entry, one child off the path, and one label below.
use mathlib.Core.Path.{◌≡◌, refl, sym, ap, ◌∙◌}
use mathlib.Core.Bool.{true, false}
use mathlib.Core.Option.{none, some}
use Prim.Native.Nat.{ℕ, zero, suc, Ordering}
use native.Mathlib.Omega.{arith}
use lib.ListN.{length}
use Rattle.octets.specs.Order.{Octets}
use Rattle.attester.specs.Record.{Child, node_record, record_size}
use Rattle.attester.specs.Path.{Path, foot, step, foot_entry, foot_left, foot_right, down}
use Rattle.attester.specs.Verdict.{side, child_there, hidden, fault, join, root_record}
use Rattle.attester.proofs.Sizes.{Labelled, Sized}
use Rattle.attester.proofs.RecordLaws.{record_length, record_injective}
use Rattle.attester.proofs.VerdictLaws.{side_same_eq, fault_below}

-- The two children that a joined record has

abbrev join_left : Ordering → Child → Octets → Child
join_left Ordering.lt s l = some l
join_left Ordering.eq s l = some l
join_left Ordering.gt s l = s

abbrev join_right : Ordering → Child → Octets → Child
join_right Ordering.lt s l = s
join_right Ordering.eq s l = s
join_right Ordering.gt s l = some l

join_parts : (o : Ordering) (e : Octets) (s : Child) (l : Octets) → join o e s l ≡ node_record (join_left o s l) e (join_right o s l)
unfolding join
join_parts Ordering.lt e s l = refl
join_parts Ordering.eq e s l = refl
join_parts Ordering.gt e s l = refl

join_labelled : (o : Ordering) (s : Child) (l : Octets) → Labelled s → length l ≡ 32 → Labelled (join_left o s l)
join_labelled Ordering.lt s l f n = n
join_labelled Ordering.eq s l f n = n
join_labelled Ordering.gt s l f n = f

join_injective : (o : Ordering) (s t : Child) (l m : Octets)
    → join_left o s l ≡ join_left o t m → join_right o s l ≡ join_right o t m → (s ≡ t) × (l ≡ m)
join_injective Ordering.lt s t l m f g = (g, cc)
join_injective Ordering.eq s t l m f g = (g, cc)
join_injective Ordering.gt s t l m f g = (f, cc)

-- the child on the path stands where x would be
join_there : (o : Ordering) (s : Child) (l : Octets) → (o ≡ Ordering.eq → ⊥) → child_there o (join_left o s l) (join_right o s l) ≡ true
unfolding child_there
join_there Ordering.lt s l n = refl
join_there Ordering.eq s l n = absurd (n refl)
join_there Ordering.gt s l n = refl

-- what the walk needs of a path: the sizes, and steps 3 and 4
pub record Clean (w : ℕ) (x : Octets) (p : Path) : Type 0 where
  pub sized : Sized w p
  pub open_foot : hidden x p ≡ false
  pub faultless : fault x p ≡ none

module _ (w : ℕ) (x e : Octets) (s : Child) (p : Path) (c : Clean w x (step e s p)) where
  pub clean_below : Clean w x p
  unfolding hidden foot_entry foot_left foot_right
  clean_below = record { sized = c.sized.2; open_foot = c.open_foot; faultless = (fault_below x e s p c.faultless).0 }

  clean_apart : side x e ≡ Ordering.eq → ⊥
  clean_apart h =
      let other = (fault_below x e s p c.faultless).1 in
      let same = side_same_eq x e h in
      let z : ◌≡◌ {A = ℕ} 0 1 = cc in
      omega arith

-- what two nodes above a foot share: the entry, the child off the path, the label below
pub record SameStep (H : Octets → Octets) (x e : Octets) (s : Child) (p : Path) (f : Octets) (t : Child) (q : Path) : Type 0 where
  pub entry : e ≡ f
  pub sibling : s ≡ t
  pub label : H (root_record H x p) ≡ H (root_record H x q)

module _ (H : Octets → Octets) (w : ℕ) (x : Octets) where
  pub root_feet : (e f : Octets) (l r m n : Child) → Sized w (foot e l r) → Sized w (foot f m n)
      → root_record H x (foot e l r) ≡ root_record H x (foot f m n) → foot e l r ≡ foot f m n
  unfolding root_record
  root_feet e f l r m n y z h =
      let a = record_injective l e r m f n y.1 z.1 (y.0 ∙ sym z.0) h in cc (a.left, a.entry, a.right)

  module _ (H_length : (m : Octets) → length (H m) ≡ 32) where
    -- by step 3 the foot has no child where the other has the one on the path
    pub root_apart : (e f : Octets) (l r t : Child) (q : Path) → Clean w x (foot e l r) → Clean w x (step f t q)
        → root_record H x (foot e l r) ≡ root_record H x (step f t q) → ⊥
    unfolding root_record hidden foot_entry foot_left foot_right
    root_apart e f l r t q c d h =
        let o = side x f in
        let m = H (root_record H x q) in
        let a =
        record_injective l e r (join_left o t m) f (join_right o t m)
        c.sized.1 (join_labelled o t m d.sized.1 (H_length (root_record H x q)))
        (c.sized.0 ∙ sym d.sized.0) (h ∙ join_parts o f t m) in
        let there = join_there o t m (clean_apart w x f t q d) in
        let not_there : child_there o (join_left o t m) (join_right o t m) ≡ false = cc (a.left, a.entry, a.right, c.open_foot) in
        let z : ◌≡◌ {A = ℕ} 0 1 = cc in
        omega arith

    pub root_steps : (e f : Octets) (s t : Child) (p q : Path) → Sized w (step e s p) → Sized w (step f t q)
        → root_record H x (step e s p) ≡ root_record H x (step f t q) → SameStep H x e s p f t q
    unfolding root_record
    root_steps e f s t p q y z h =
        let o = side x e in
        let u = side x f in
        let l = H (root_record H x p) in
        let m = H (root_record H x q) in
        let a =
        record_injective (join_left o s l) e (join_right o s l) (join_left u t m) f (join_right u t m)
        (join_labelled o s l y.1 (H_length (root_record H x p))) (join_labelled u t m z.1 (H_length (root_record H x q)))
        (y.0 ∙ sym z.0) (sym (join_parts o e s l) ∙ (h ∙ join_parts u f t m)) in
        let one : u ≡ o = ap (side x) (sym a.entry) in
        let b = join_injective o s t l m (a.left ∙ ap (λ v. join_left v t m) one) (a.right ∙ ap (λ v. join_right v t m) one) in
        record { entry = a.entry; sibling = b.0; label = b.1 }

-- Sizes

join_labelled_right : (o : Ordering) (s : Child) (l : Octets) → Labelled s → length l ≡ 32 → Labelled (join_right o s l)
join_labelled_right Ordering.lt s l g h = g
join_labelled_right Ordering.eq s l g h = g
join_labelled_right Ordering.gt s l g h = h

pub sized_down : (w i : ℕ) (p : Path) → Sized w p → Sized w (down i p)
unfolding down
sized_down w zero p z = z
sized_down w (suc i) (foot e l r) z = z
sized_down w (suc i) (step e s p) z = sized_down w i p z.2

pub root_length : (H : Octets → Octets) → ((m : Octets) → length (H m) ≡ 32) → (w : ℕ) (x : Octets) (p : Path) → Sized w p
    → length (root_record H x p) ≡ record_size w
unfolding root_record
root_length H H_length w x (foot e l r) z = omega (arith, record_length w l e r z.1 z.0 z.2)
root_length H H_length w x (step e s p) z =
    let l = H (root_record H x p) in
    let o = side x e in
    rw (join_parts o e s l)
    (omega (arith, record_length w (join_left o s l) e (join_right o s l) (join_labelled o s l z.1 (H_length (root_record H x p))) z.0 (join_labelled_right o s l z.1 (H_length (root_record H x p)))))
