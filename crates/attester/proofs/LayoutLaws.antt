-- Where the parts of octets of the form stand, and the climb over them from the foot: at level j a path up to kj is built, and
-- the keys and siblings that are left make the rest of the path that was read.
use mathlib.Core.Path.{◌≡◌, refl, sym, ap, ◌∙◌}
use mathlib.Core.List.{List, [], ◌∷◌}
use Prim.Native.Nat.{ℕ, zero, suc, ◌+◌, ◌-◌, ◌*◌, ◌≤◌, ◌<◌}
use native.Mathlib.Decide.{dec_le}
use native.Mathlib.Omega.{arith}
use borrow.Author.Tests.{eqb-true}
use lib.Dec.{eqb}
use lib.ListN.{length, take, drop, get_or, length-drop}
use lib.Seq.{drop-drop}
use Rattle.octets.specs.Order.{Octets}
use Rattle.attester.specs.Entry.{entries}
use Rattle.attester.specs.Record.{Child}
use Rattle.attester.specs.Path.{Path, foot, step, top, height, down}
use Rattle.attester.specs.Reader.{got, block, many}
use Rattle.attester.specs.Form.{optional, climb, path_of, is_count, sections, formed, form}
use Rattle.attester.specs.Attestation.{optional_octets}
use Rattle.attester.proofs.Sizes.{Labelled}
use Rattle.attester.proofs.EntryLaws.{entries_length}
use Rattle.attester.proofs.ReaderLaws.{went, octet_only, close_only, many_first, many_only}
use Rattle.attester.proofs.OffsetLaws.{blocks_at, blocks_end, OptionalAt, optional_at}
use Rattle.attester.proofs.FormLaws.{optional_inverse, is_count_true, placed_formed}

-- The sections of a, of which the path p was read
pub record Layout (w : ℕ) (a : Octets) (p : Path) : Type 0 where
  pub some_key : 1 ≤ get_or a 0 0
  pub few_keys : get_or a 0 0 ≤ 32
  pub left_end : ℕ
  pub right_end : ℕ
  pub left : OptionalAt a (1 + get_or a 0 0 * w) left_end
  pub right : OptionalAt a left_end right_end
  pub inside : right_end < length a
  pub siblings : List Child
  pub siblings_read : many optional (get_or a 0 0 - 1) (drop (suc right_end) a) ≡ got siblings []
  pub is : p ≡ path_of (entries w (get_or a 0 0) (drop 1 a)) left.child right.child siblings

keys_fit : (w k : ℕ) (a : Octets) (es : List Octets) (s : Octets) → 1 ≤ length a → many (block w) k (drop 1 a) ≡ got es s → 1 + k * w ≤ length a
keys_fit w k a es s h u =
    elim (dec_le (1 + k * w) (length a)) [
      | yes f ↦ f
      | no f ↦ let v = blocks_end w k a 1 h (omega arith) in let z : ◌≡◌ {A = ℕ} 0 1 = cc in absurd (omega arith)
    ]

same_path : {es fs : List Octets} {l m r q : Child} (ss : List Child) → es ≡ fs → l ≡ m → r ≡ q → path_of es l r ss ≡ path_of fs m q ss
same_path ss e f g = cc

module _ (w : ℕ) (a : Octets) (p : Path) where
  pub layout : form w a ≡ formed p → Layout w a p
  unfolding form sections
  layout f =
      let g = placed_formed (length a) p (sections w a) f in
      went _ _ g.1 λ k s₁ u₁ v₁.
      went _ _ v₁ λ es s₂ u₂ v₂.
      went _ _ v₂ λ l s₃ u₃ v₃.
      went _ _ v₃ λ r s₄ u₄ v₄.
      went _ _ v₄ λ m s₅ u₅ v₅.
      went _ _ v₅ λ ss s₆ u₆ v₆.
      let d₁ = octet_only is_count k a s₁ u₁ in
      let k_is : k ≡ get_or a 0 0 = ap (λ s. get_or s 0 0) (sym d₁.0) in
      let s₁_is : s₁ ≡ drop 1 a = ap (drop 1) (sym d₁.0) in
      let some : 1 ≤ length a = rw d₁.0 (omega arith) in
      let counts = is_count_true k d₁.1 in
      let n₂ : many (block w) (get_or a 0 0) (drop 1 a) ≡ got es s₂ = rw (← k_is, ← s₁_is) u₂ in
      let fits = keys_fit w (get_or a 0 0) a es s₂ some n₂ in
      let b₂ = blocks_at w (get_or a 0 0) a 1 fits in
      let es_is : es ≡ entries w (get_or a 0 0) (drop 1 a) = cc in
      let s₂_is : s₂ ≡ drop (1 + get_or a 0 0 * w) a = cc in
      let left = optional_at a (1 + get_or a 0 0 * w) l s₃ fits (rw (← s₂_is) u₃) in
      let i₃ = left.is in
      let l_is : l ≡ left.child = cc in
      let s₃_is : s₃ ≡ drop (length a - length s₃) a = cc in
      let right = optional_at a (length a - length s₃) r s₄ left.inside (rw (← s₃_is) u₄) in
      let i₄ = right.is in
      let r_is : r ≡ right.child = cc in
      let s₄_is : s₄ ≡ drop (length a - length s₄) a = cc in
      let d₅ = octet_only (λ m. eqb m (k - 1)) m s₄ s₅ u₅ in
      let m_is : m ≡ get_or a 0 0 - 1 = rw (← k_is) (eqb-true m (k - 1) d₅.1) in
      let next : length a - length s₄ + 1 ≡ suc (length a - length s₄) = omega arith in
      let s₅_is : s₅ ≡ drop (suc (length a - length s₄)) a =
      ap (drop 1) (sym d₅.0 ∙ s₄_is) ∙ (drop-drop 1 (length a - length s₄) a ∙ ap (λ n. drop n a) next) in
      let d₆ = close_only (path_of es l r ss) p s₆ g.0 v₆ in
      record {
        some_key = rw (← k_is) counts.0;
        few_keys = rw (← k_is) counts.1;
        left_end = length a - length s₃;
        right_end = length a - length s₄;
        left = left;
        right = right;
        inside = omega (arith, ap length d₅.0, ap length s₄_is, right.inside, length-drop (length a - length s₄) a);
        siblings = ss;
        siblings_read = rw (← m_is, ← s₅_is, ← d₆.0) u₆;
        is = sym d₆.1 ∙ same_path ss es_is l_is r_is;
      }

same_climb : (q : Path) {es fs : List Octets} {ss ts : List Child} → es ≡ fs → ss ≡ ts → climb q es ss ≡ climb q fs ts
same_climb q e f = cc

-- Down again

down_once : (i : ℕ) (p : Path) → down (suc i) p ≡ down 1 (down i p)
unfolding down
down_once zero p = refl
down_once (suc i) (foot e l r) = refl
down_once (suc i) (step e s p) = down_once i p

down_climb : (q : Path) (es : List Octets) (ss : List Child) (i : ℕ) → length es ≡ i → length ss ≡ i → down i (climb q es ss) ≡ q
unfolding down climb
down_climb q [] ss zero h k = refl
down_climb q [] ss (suc i) h k = absurd (omega arith)
down_climb q (e ∷ es) ss zero h k = absurd (omega arith)
down_climb q (e ∷ es) [] (suc i) h k = absurd (omega arith)
down_climb q (e ∷ es) (s ∷ ss) (suc i) h k =
    down_once i (climb (step e s q) es ss) ∙ ap (down 1) (down_climb (step e s q) es ss i (omega arith) (omega arith))

-- Level j is reached with the path q, whose top is kj; the siblings that are left are read from the offset `at` on, and with
-- them and the keys that are left q makes p.
pub record Climbing (w : ℕ) (a : Octets) (p : Path) (j at : ℕ) (q : Path) : Type 0 where
  pub tall : height q ≡ j
  pub at_top : top q ≡ take w (drop (1 + j * w) a)
  pub inside : at ≤ length a
  pub left : List Child
  pub left_read : many optional (get_or a 0 0 - 1 - j) (drop at a) ≡ got left []
  pub is : p ≡ climb q (entries w (get_or a 0 0 - 1 - j) (drop (1 + suc j * w) a)) left

module _ (w : ℕ) (a : Octets) (p : Path) where
  pub climb_start : (o : Layout w a p) → Climbing w a p 0 (suc o.right_end) (foot (take w (drop 1 a)) o.left.child o.right.child)
  unfolding height top entries
  climb_start o =
      let one_more : get_or a 0 0 ≡ suc (get_or a 0 0 - 1) = omega (arith, o.some_key) in
      let zero_w : 1 + 0 * w ≡ 1 = omega arith in
      let zero_less : get_or a 0 0 - 1 - 0 ≡ get_or a 0 0 - 1 = omega arith in
      let second : 1 + 1 * w ≡ 1 + w = omega arith in
      let keys : entries w (get_or a 0 0) (drop 1 a) ≡ take w (drop 1 a) ∷ entries w (get_or a 0 0 - 1) (drop (1 + w) a) =
      ap (λ n. entries w n (drop 1 a)) one_more ∙ ap (λ s. take w (drop 1 a) ∷ entries w (get_or a 0 0 - 1) s) (drop-drop w 1 a) in
      record {
        tall = refl;
        at_top = rw zero_w;
        inside = o.inside;
        left = o.siblings;
        left_read = rw zero_less o.siblings_read;
        is = rw (zero_less, second) (o.is ∙ same_path o.siblings keys refl refl);
      }

  module _ (j at : ℕ) (q : Path) (c : Climbing w a p j at q) where
    -- one level more: the next key, and the sibling at `at`
    pub record Next : Type 0 where
      pub next : ℕ
      pub sibling : OptionalAt a at next
      pub climbing : Climbing w a p (suc j) next (step (take w (drop (1 + suc j * w) a)) sibling.child q)

    pub climb_next : suc j < get_or a 0 0 → Next
    unfolding height top entries climb
    climb_next h =
        let more : get_or a 0 0 - 1 - j ≡ suc (get_or a 0 0 - 1 - suc j) = omega arith in
        let two : 1 + suc j * w + w ≡ 1 + suc (suc j) * w = omega arith in
        let f = many_first optional (get_or a 0 0 - 1 - suc j) c.left (drop at a) [] (rw (← more) c.left_read) in
        let sibling = optional_at a at f.first f.rest c.inside f.reads in
        let i = sibling.is in
        let u = f.reads in
        let first_is : f.first ≡ sibling.child = cc in
        let rest_is : f.rest ≡ drop (length a - length f.rest) a = cc in
        let keys : entries w (get_or a 0 0 - 1 - j) (drop (1 + suc j * w) a)
        ≡ take w (drop (1 + suc j * w) a) ∷ entries w (get_or a 0 0 - 1 - suc j) (drop (1 + suc (suc j) * w) a) =
        ap (λ n. entries w n (drop (1 + suc j * w) a)) more
        ∙ ap (λ s. take w (drop (1 + suc j * w) a) ∷ entries w (get_or a 0 0 - 1 - suc j) s) (drop-drop w (1 + suc j * w) a ∙ ap (λ n. drop n a) two) in
        record {
          next = length a - length f.rest;
          sibling = sibling;
          climbing = record {
            tall = ap suc c.tall;
            at_top = refl;
            inside = sibling.inside;
            left = f.others;
            left_read = ap (many optional (get_or a 0 0 - 1 - suc j)) (sym rest_is) ∙ f.then;
            is = c.is ∙ same_climb q keys (f.is ∙ ap (λ b. b ∷ f.others) first_is);
          };
        }

    -- i levels below the root
    pub climb_down : (i : ℕ) → j + i ≡ get_or a 0 0 - 1 → down i p ≡ q
    climb_down i h =
        let left_is : get_or a 0 0 - 1 - j ≡ i = omega arith in
        let even = (many_only optional optional_octets Labelled optional_inverse (get_or a 0 0 - 1 - j) c.left (drop at a) [] c.left_read).count in
        ap (down i) c.is
        ∙ down_climb q (entries w (get_or a 0 0 - 1 - j) (drop (1 + suc j * w) a)) c.left i
        (entries_length w (get_or a 0 0 - 1 - j) (drop (1 + suc j * w) a) ∙ left_is) (even ∙ left_is)
