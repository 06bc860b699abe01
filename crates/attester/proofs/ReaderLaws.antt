-- A reader takes back what its writer wrote, and what it takes was written so: of one octet, of a block, and of many parts
-- where it holds of one.
use mathlib.Core.Path.{◌≡◌, refl, sym, ap}
use mathlib.Core.Bool.{Bool, true, false, cond}
use mathlib.Core.List.{List, [], ◌∷◌, ◌++◌, map, flatten, append_assoc}
use Prim.Native.Nat.{ℕ, zero, suc}
use native.Mathlib.Omega.{arith}
use borrow.Author.Tests.{leb-true, le-leb}
use lib.Dec.{leb}
use lib.ListN.{length, take, drop, length-append, take-append-drop}
use lib.Seq.{take_at, drop_at, length-take-le}
use Rattle.octets.specs.Order.{Octets}
use Rattle.attester.specs.Reader.{Stop, short, wrong, Read, got, stopped, Reader, after, ◌>>=◌, give, octet, block, many, close}

-- P holds of each part
abbrev pub All : {A : Type 0} → (A → Type 0) → List A → Type 0
All P [] = Unit {0}
All P (a ∷ l) = P a × All P l

pub all_append : {A : Type 0} (P : A → Type 0) (l m : List A) → All P l → All P m → All P (l ++ m)
all_append P [] m h k = k
all_append P (a ∷ l) m h k = (h.0, all_append P l m h.1 k)

-- a reading that succeeded, taken apart
pub went : {A B G : Type 0} (m : Read A) (f : A → Reader B) {b : B} {t : Octets} → after m f ≡ got b t
    → ((a : A) (s : Octets) → m ≡ got a s → f a s ≡ got b t → G) → G
went (got a s) f e k = k a s refl e
went (stopped r) f e k = let z : ◌≡◌ {A = ℕ} 0 1 = cc in absurd (omega arith)

-- One octet

pub octet_back : (stands : ℕ → Bool) (b : ℕ) (s : Octets) → stands b ≡ true → octet stands (b ∷ s) ≡ got b s
unfolding octet
octet_back stands b s e = rw e

pub octet_only : (stands : ℕ → Bool) (b : ℕ) (s t : Octets) → octet stands s ≡ got b t → (s ≡ b ∷ t) × (stands b ≡ true)
unfolding octet
octet_only stands b [] t e = let z : ◌≡◌ {A = ℕ} 0 1 = cc in absurd (omega arith)
octet_only stands b (c ∷ s) t e = go (stands c) refl e
  where
    go : (o : Bool) → stands c ≡ o → cond o (got c s) (stopped (wrong (length (c ∷ s)))) ≡ got b t → (c ∷ s ≡ b ∷ t) × (stands b ≡ true)
    go true h e = (cc, cc)
    go false h e = let z : ◌≡◌ {A = ℕ} 0 1 = cc in absurd (omega arith)

pub close_only : {A : Type 0} (a b : A) (s t : Octets) → close a s ≡ got b t → (s ≡ []) × (a ≡ b)
unfolding close
close_only a b [] t e = (refl, cc)
close_only a b (c ∷ s) t e = let z : ◌≡◌ {A = ℕ} 0 1 = cc in absurd (omega arith)

-- A reader and a writer, on the values of which P holds

pub record Inverse {A : Type 0} (part : Reader A) (write : A → Octets) (P : A → Type 0) : Type 0 where
  pub back : (a : A) (s : Octets) → P a → part (write a ++ s) ≡ got a s
  pub only : (a : A) (s t : Octets) → part s ≡ got a t → (s ≡ write a ++ t) × P a

pub block_inverse : (n : ℕ) → Inverse (block n) (λ l. l) (λ l. length l ≡ n)
unfolding block
block_inverse n = record {
  back = λ a s h. rw (le-leb n (length (a ++ s)) (omega (arith, h, length-append a s)), take_at a s n h, drop_at a s n h);
  only = λ a s t e. go a s t (leb n (length s)) refl e;
}
  where
    go : (a s t : Octets) (o : Bool) → leb n (length s) ≡ o → cond o (got (take n s) (drop n s)) (stopped short) ≡ got a t
        → (s ≡ a ++ t) × (length a ≡ n)
    go a s t true h e =
        let p : take n s ≡ a = cc in
        let q : drop n s ≡ t = cc in
        (rw (← p, ← q) (sym (take-append-drop n s)), rw (← p) (length-take-le n s (leb-true n (length s) h)))
    go a s t false h e = let z : ◌≡◌ {A = ℕ} 0 1 = cc in absurd (omega arith)

module _ {A : Type 0} (part : Reader A) where
  -- one part, and then the others
  pub many_next : (n : ℕ) (a : A) (s t : Octets) → part s ≡ got a t → many part (suc n) s ≡ after (many part n t) (λ l. give (a ∷ l))
  unfolding many
  many_next n a s t e = rw e

  pub many_stop : (n : ℕ) (s : Octets) (r : Stop) → part s ≡ stopped r → many part (suc n) s ≡ stopped r
  unfolding many
  many_stop n s r e = rw e

  -- what was read of the first, and of the others
  pub record First (n : ℕ) (l : List A) (s t : Octets) : Type 0 where
    pub first : A
    pub rest : Octets
    pub others : List A
    pub reads : part s ≡ got first rest
    pub then : many part n rest ≡ got others t
    pub is : l ≡ first ∷ others

  pub many_first : (n : ℕ) (l : List A) (s t : Octets) → many part (suc n) s ≡ got l t → First n l s t
  unfolding many
  many_first n l s t e =
      went (part s) (λ a. many part n >>= (λ m. give (a ∷ m))) e λ a r u v.
      went (many part n r) (λ m. give (a ∷ m)) v λ m t' x y.
      record {
        first = a;
        rest = r;
        others = m;
        reads = u;
        then = cc;
        is = cc;
      }

module _ {A : Type 0} (part : Reader A) (write : A → Octets) (P : A → Type 0) (i : Inverse part write P) where
  pub many_back : (n : ℕ) (l : List A) (s : Octets) → length l ≡ n → All P l → many part n (flatten (map write l) ++ s) ≡ got l s
  unfolding many flatten
  many_back zero [] s e h = refl
  many_back zero (a ∷ l) s e h = absurd (omega arith)
  many_back (suc n) [] s e h = absurd (omega arith)
  many_back (suc n) (a ∷ l) s e h =
      rw (append_assoc, i.back a (flatten (map write l) ++ s) h.0, many_back n l s (omega arith) h.1)

  -- n parts were taken off the front of s, and t is left
  pub record Taken (n : ℕ) (l : List A) (s t : Octets) : Type 0 where
    pub is : s ≡ flatten (map write l) ++ t
    pub all : All P l
    pub count : length l ≡ n

  pub many_only : (n : ℕ) (l : List A) (s t : Octets) → many part n s ≡ got l t → Taken n l s t
  unfolding many flatten
  many_only zero l s t e =
      let p : l ≡ [] = cc in
      let q : s ≡ t = cc in
      record { is = rw (p, q); all = rw p tt; count = rw p }
  many_only (suc n) l s t e =
      went (part s) (λ a. many part n >>= (λ m. give (a ∷ m))) e λ a r u v.
      went (many part n r) (λ m. give (a ∷ m)) v λ m t' x y.
      let c = many_only n m r t' x in
      let p : l ≡ a ∷ m = cc in
      let q : t ≡ t' = cc in
      let d = i.only a s r u in
      record {
        is = rw (p, q, append_assoc) (cc (d.0, c.is));
        all = rw p (d.1, c.all);
        count = rw p (ap suc c.count);
      }
