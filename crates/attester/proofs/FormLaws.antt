-- The form and the rendering undo each other. Each reader of a section takes back what the rendering wrote there; and a
-- form that was read took, section by section, the octets that the rendering of its path has.
use mathlib.Core.Path.{◌≡◌, refl, sym, ap, ◌∙◌, subst}
use mathlib.Core.Bool.{Bool, true, false, ◌&&◌}
use mathlib.Core.List.{List, [], ◌∷◌, ◌++◌, map, flatten, append_assoc, append-nil, map-id}
use mathlib.Core.Option.{none, some}
use Prim.Native.Nat.{ℕ, zero, suc, ◌+◌, ◌-◌, ◌≤◌, ◌<◌}
use native.Mathlib.Omega.{arith}
use borrow.Author.Tests.{leb-true, le-leb, eq-eqb, eqb-true}
use lib.Dec.{leb, eqb}
use lib.ListN.{length, length-append}
use Rattle.octets.specs.Order.{Octets}
use Rattle.attester.specs.Record.{Child}
use Rattle.attester.specs.Path.{Path, foot, foot_left, foot_right, height, keys, siblings}
use Rattle.attester.specs.Reader.{short, wrong, Read, got, stopped, give, octet, block, many, close}
use Rattle.attester.specs.Form.{announced, optional, climb, path_of, is_count, sections, formed, spoilt, placed, form}
use Rattle.attester.specs.Attestation.{optional_octets, render}
use Rattle.attester.proofs.Sizes.{Labelled, Sized}
use Rattle.attester.proofs.ReaderLaws.{All, went, octet_back, octet_only, close_only, Inverse, block_inverse, many_back, many_only}
use Rattle.attester.proofs.PathLaws.{keys_length, siblings_length, throughout_keys, throughout_siblings, sized_left, sized_right, path_of_sections, keys_climb, siblings_climb, foot_left_climb, foot_right_climb, sized_climb}

-- Optional labels

pub optional_inverse : Inverse optional optional_octets Labelled
unfolding optional optional_octets
optional_inverse = record { back = back; only = only }
  where
    back : (a : Child) (s : Octets) → Labelled a → optional (optional_octets a ++ s) ≡ got a s
    back none s h = rw (octet_back (λ n. leb n 1) 0 s refl)
    back (some l) s h = rw (octet_back (λ n. leb n 1) 1 (l ++ s) refl, (block_inverse 32).back l s h)

    leave : (n : ℕ) (a : Child) (s t : Octets) → n ≤ 1 → announced n s ≡ got a t → (n ∷ s ≡ optional_octets a ++ t) × Labelled a
    leave zero a s t h e = let p : a ≡ none = cc in let q : s ≡ t = cc in rw (p, q) (refl, tt)
    leave (suc zero) a s t h e =
        went (block 32 s) (λ l. give (some l)) e λ l r u v.
        let d = (block_inverse 32).only l s r u in
        let p : a ≡ some l = cc in
        let q : t ≡ r = cc in
        rw (p, q) (cc d.0, d.1)
    leave (suc (suc n)) a s t h e = absurd (omega arith)

    only : (a : Child) (s t : Octets) → optional s ≡ got a t → (s ≡ optional_octets a ++ t) × Labelled a
    only a s t e =
        went (octet (λ n. leb n 1) s) announced e λ n r u v.
        let d = octet_only (λ n. leb n 1) n s r u in
        rw d.0 (leave n a r t (leb-true n 1 d.1) v)

-- The count K

pub and_both : (a b : Bool) → (a && b) ≡ true → (a ≡ true) × (b ≡ true)
and_both true b e = (refl, e)
and_both false b e = (e, cc)

pub is_count_true : (k : ℕ) → is_count k ≡ true → (1 ≤ k) × (k ≤ 32)
unfolding is_count
is_count_true k e = let h = and_both (leb 1 k) (leb k 32) e in (leb-true 1 k h.0, leb-true k 32 h.1)

pub true_is_count : (k : ℕ) → 1 ≤ k → k ≤ 32 → is_count k ≡ true
unfolding is_count
true_is_count k g h = rw (le-leb 1 k g, le-leb k 32 h)

-- What is rendered is read

module _ (w : ℕ) (p : Path) (z : Sized w p) (h : height p < 32) where
  -- whatever follows
  sections_before : (t : Octets) → sections w (render p ++ t) ≡ close p t
  unfolding sections render
  sections_before t =
      let n = height p in
      let s₅ = flatten (map optional_octets (siblings p)) in
      let s₄ = n ∷ (s₅ ++ t) in
      let s₃ = optional_octets (foot_right p) ++ s₄ in
      let s₂ = optional_octets (foot_left p) ++ s₃ in
      let s₁ = flatten (keys p) ++ s₂ in
      let all : (flatten (keys p) ++ (optional_octets (foot_left p) ++ (optional_octets (foot_right p) ++ (n ∷ s₅)))) ++ t ≡ s₁ = simp append_assoc in
      let entries : many (block w) (suc n) s₁ ≡ got (keys p) s₂ =
      rw map-id at (many_back (block w) (λ e. e) (λ e. length e ≡ w) (block_inverse w) (suc n) (keys p) s₂ (keys_length p) (throughout_keys (λ e. length e ≡ w) Labelled p z)) in
      let labels : many optional n (s₅ ++ t) ≡ got (siblings p) t =
      many_back optional optional_octets Labelled optional_inverse n (siblings p) t (siblings_length p) (throughout_siblings (λ e. length e ≡ w) Labelled p z) in
      let one_less : suc n - 1 ≡ n = omega arith in
      rw (
        all,
        octet_back is_count (suc n) s₁ (true_is_count (suc n) (omega arith) h),
        entries,
        optional_inverse.back (foot_left p) s₃ (sized_left w p z),
        optional_inverse.back (foot_right p) s₄ (sized_right w p z),
        octet_back (λ m. eqb m (suc n - 1)) n (s₅ ++ t) (eq-eqb n (suc n - 1) (omega arith)),
        labels,
        path_of_sections p,
      )
      refl

  pub sections_of_render : sections w (render p) ≡ got p []
  unfolding close
  sections_of_render = rw append-nil at (sections_before [])

  -- the first octet that is left over can't stand there
  pub form_left_over : (c : ℕ) (t : Octets) → form w (render p ++ (c ∷ t)) ≡ spoilt (length (render p))
  unfolding form placed close
  form_left_over c t =
      let n : length (render p) + suc (length t) - suc (length t) ≡ length (render p) = omega arith in
      rw (sections_before (c ∷ t), length-append (render p) (c ∷ t), n)

  pub form_of_render : form w (render p) ≡ formed p
  unfolding form placed
  form_of_render = rw sections_of_render

-- What is read was rendered

-- a is the rendering of p, whose entries have w octets and whose K is at most 32
pub record Rendered (w : ℕ) (a : Octets) (p : Path) : Type 0 where
  pub is : a ≡ render p
  pub sized : Sized w p
  pub low : height p < 32

rendered : (w k : ℕ) (es : List Octets) (l r : Child) (ss : List Child) (a s₁ s₂ s₃ s₄ s₅ : Octets) → is_count k ≡ true
    → a ≡ k ∷ s₁ → s₁ ≡ flatten es ++ s₂ → s₂ ≡ optional_octets l ++ s₃ → s₃ ≡ optional_octets r ++ s₄ → s₄ ≡ (k - 1) ∷ s₅
    → s₅ ≡ flatten (map optional_octets ss) → length es ≡ k → length ss ≡ k - 1
    → All (λ e. length e ≡ w) es → Labelled l → Labelled r → All Labelled ss
    → Rendered w a (path_of es l r ss)
unfolding siblings keys foot_left foot_right render
rendered w k [] l r ss a s₁ s₂ s₃ s₄ s₅ c e₀ e₁ e₂ e₃ e₄ e₅ n m ze zl zr zs = absurd (omega (arith, is_count_true k c))
rendered w k (e ∷ es) l r ss a s₁ s₂ s₃ s₄ s₅ c e₀ e₁ e₂ e₃ e₄ e₅ n m ze zl zr zs =
    let counts = is_count_true k c in
    let even : length es ≡ length ss = omega arith in
    let p = climb (foot e l r) es ss in
    let tall : height p ≡ k - 1 = sym (siblings_length p) ∙ (ap length (siblings_climb (foot e l r) es ss even) ∙ m) in
    let more : suc (k - 1) ≡ k = omega arith in
    record {
      is = cc (
        keys_climb (foot e l r) es ss even,
        siblings_climb (foot e l r) es ss even,
        foot_left_climb (foot e l r) es ss,
        foot_right_climb (foot e l r) es ss,
        more,
      );
      sized = sized_climb w (foot e l r) es ss (ze.0, zl, zr) ze.1 zs;
      low = omega arith;
    }

pub sections_rendered : (w : ℕ) (p : Path) (a t : Octets) → sections w a ≡ got p t → Rendered w a p
unfolding sections
sections_rendered w p a t e =
    went _ _ e λ k s₁ u₁ v₁.
    went _ _ v₁ λ es s₂ u₂ v₂.
    went _ _ v₂ λ l s₃ u₃ v₃.
    went _ _ v₃ λ r s₄ u₄ v₄.
    went _ _ v₄ λ m s₅ u₅ v₅.
    went _ _ v₅ λ ss s₆ u₆ v₆.
    let d₁ = octet_only is_count k a s₁ u₁ in
    let d₂ = many_only (block w) (λ e. e) (λ e. length e ≡ w) (block_inverse w) k es s₁ s₂ u₂ in
    let d₃ = optional_inverse.only l s₂ s₃ u₃ in
    let d₄ = optional_inverse.only r s₃ s₄ u₄ in
    let d₅ = octet_only (λ m. eqb m (k - 1)) m s₄ s₅ u₅ in
    let d₆ = many_only optional optional_octets Labelled optional_inverse m ss s₅ s₆ u₆ in
    let d₇ = close_only (path_of es l r ss) p s₆ t v₆ in
    let m_is : m ≡ k - 1 = eqb-true m (k - 1) d₅.1 in
    let e₁ : s₁ ≡ flatten es ++ s₂ = rw map-id at d₂.is in
    let e₄ : s₄ ≡ (k - 1) ∷ s₅ = cc d₅.0 in
    let e₅ : s₅ ≡ flatten (map optional_octets ss) = cc (d₆.is, d₇.0, append-nil (flatten (map optional_octets ss))) in
    subst (Rendered w a) d₇.1
    (rendered w k es l r ss a s₁ s₂ s₃ s₄ s₅ d₁.1 d₁.0 e₁ d₃.0 d₄.0 e₄ e₅ d₂.count (d₆.count ∙ m_is) d₂.all d₃.1 d₄.1 d₆.all)

pub placed_formed : (n : ℕ) (p : Path) (m : Read Path) → placed n m ≡ formed p → (s : Octets) × (m ≡ got p s)
unfolding placed
placed_formed n p (got q s) e = (s, cc)
placed_formed n p (stopped short) e = let z : ◌≡◌ {A = ℕ} 0 1 = cc in absurd (omega arith)
placed_formed n p (stopped (wrong left)) e = let z : ◌≡◌ {A = ℕ} 0 1 = cc in absurd (omega arith)

-- octets of the form are the rendering of the path that was read
pub form_rendered : (w : ℕ) (a : Octets) (p : Path) → form w a ≡ formed p → Rendered w a p
unfolding form
form_rendered w a p e =
    let g = placed_formed (length a) p (sections w a) e in sections_rendered w p a g.0 g.1

-- paths that render the same octets are one path
pub render_injective : (w : ℕ) (p q : Path) → Sized w p → Sized w q → height p < 32 → height q < 32 → render p ≡ render q → p ≡ q
render_injective w p q z y g h e =
    let f : formed p ≡ formed q = sym (form_of_render w p z g) ∙ (ap (form w) e ∙ form_of_render w q y h) in cc
