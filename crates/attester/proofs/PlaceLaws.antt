-- How far a refusal's place can lie, and how many levels an extractor can pass. A reader goes no further than its sections can reach:
-- where it stops, the octets ended before that, or the octet that can't stand there is at most so far on. Steps 3 to 6 name a level of
-- the path, which has at most 32.
use mathlib.Core.Path.{◌≡◌, refl}
use mathlib.Core.Bool.{Bool, true, false, cond, ◌&&◌}
use mathlib.Core.List.{[], ◌∷◌}
use mathlib.Core.Option.{Option, none, some}
use Prim.Native.Nat.{ℕ, zero, suc, ◌+◌, ◌-◌, ◌*◌, ◌≤◌, ◌<◌}
use native.Mathlib.Nat.{mul-le-mul_right}
use native.Mathlib.Omega.{arith}
use borrow.Author.Tests.{leb-false, eqb-true}
use lib.Dec.{leb, eqb}
use lib.ListN.{length, take, drop, length-drop}
use Rattle.answer.specs.Refusals.{size, child_at_foot, other_digest, IsRefusal}
use Rattle.octets.specs.Order.{Octets, same}
use Rattle.attester.specs.Entry.{key}
use Rattle.attester.specs.Path.{Path, foot_entry, height}
use Rattle.attester.specs.Reader.{short, wrong, Read, got, stopped, Reader, after, give, octet, block, many, close}
use Rattle.attester.specs.Form.{announced, optional, path_of, is_count, sections, Form, formed, ended, spoilt, placed, form, path_read, shown}
use Rattle.attester.specs.Verdict.{Judgement, present, absent, refused, hidden, fault, unless_fault, root_record, judge}
use Rattle.attester.specs.Verify.{judged, verify}
use Rattle.attester.specs.Walk.{Found, walk}
use Rattle.attester.specs.Extract.{Extraction, extracted, shows, contradiction, sized, extract}
use Rattle.attester.specs.Extract as extractor
use Rattle.attester.proofs.ReaderLaws.{octet_only}
use Rattle.attester.proofs.FormLaws.{is_count_true, form_rendered}
use Rattle.attester.proofs.VerdictLaws.{fault_height}
use Rattle.attester.proofs.WalkLaws.{walk_passed}

-- Readers

-- of n octets, this reading went at most m on
abbrev Within : {A : Type 0} → ℕ → ℕ → Read A → Type 0
Within n m (got a t) = n ≤ length t + m
Within n m (stopped short) = n < m
Within n m (stopped (wrong left)) = n ≤ left + m

-- one reading and then the next, and both together go at most j on
within_after : {A B : Type 0} (n m k j : ℕ) (r : Read A) (f : A → Reader B) → m + k ≤ j → Within n m r
    → ((a : A) (t : Octets) → r ≡ got a t → Within (length t) k (f a t)) → Within n j (after r f)
within_after n m k j (got a t) f l h g = on (f a t) (g a t refl)
  where
    on : {B : Type 0} (q : Read B) → Within (length t) k q → Within n j q
    on (got b u) w = omega arith
    on (stopped short) w = omega arith
    on (stopped (wrong left)) w = omega arith
within_after n m k j (stopped short) f l h g = omega arith
within_after n m k j (stopped (wrong left)) f l h g = omega arith

within_octet : (stands : ℕ → Bool) (s : Octets) → Within (length s) 1 (octet stands s)
unfolding octet
within_octet stands [] = omega arith
within_octet stands (b ∷ s) = go (stands b)
  where
    go : (o : Bool) → Within (length (b ∷ s)) 1 (cond o (got b s) (stopped (wrong (length (b ∷ s)))))
    go true = omega arith
    go false = omega arith

within_block : (n : ℕ) (s : Octets) → Within (length s) n (block n s)
unfolding block
within_block n s = go (leb n (length s)) refl
  where
    go : (o : Bool) → leb n (length s) ≡ o → Within (length s) n (cond o (got (take n s) (drop n s)) (stopped short))
    go true h = omega (arith, length-drop n s)
    go false h = omega (arith, leb-false n (length s) h)

within_many : {A : Type 0} (part : Reader A) (m : ℕ) → ((s : Octets) → Within (length s) m (part s))
    → (n : ℕ) (s : Octets) → Within (length s) (n * m) (many part n s)
unfolding many
within_many part m h zero s = omega arith
within_many part m h (suc n) s =
    within_after (length s) m (n * m) (suc n * m) (part s) _ (omega arith) (h s) λ a t e.
    within_after (length t) (n * m) 0 (n * m) (many part n t) (λ l. give (a ∷ l)) (omega arith) (within_many part m h n t) λ l u g. omega arith

within_close : {A : Type 0} (a : A) (s : Octets) → Within (length s) 0 (close a s)
unfolding close
within_close a [] = omega arith
within_close a (b ∷ s) = omega arith

within_optional : (s : Octets) → Within (length s) 33 (optional s)
unfolding optional
within_optional s =
    within_after (length s) 1 32 33 (octet (λ n. leb n 1) s) announced (omega arith) (within_octet (λ n. leb n 1) s) λ n t e. label n t
  where
    label : (n : ℕ) (t : Octets) → Within (length t) 32 (announced n t)
    label zero t = omega arith
    label (suc n) t = within_after (length t) 32 0 32 (block 32 t) (λ l. give (some l)) (omega arith) (within_block 32 t) λ l u g. omega arith

-- The form: K, at most 32 entries, two optional labels, K - 1, at most 31 optional labels

within_sections : (w : ℕ) (a : Octets) → Within (length a) (1091 + 32 * w) (sections w a)
unfolding sections
within_sections w a =
    within_after (length a) 1 (1090 + 32 * w) (1091 + 32 * w) (octet is_count a) _ (omega arith) (within_octet is_count a) λ k s₁ u₁.
    let few = is_count_true k (octet_only is_count k a s₁ u₁).1 in
    let wide : k * w ≤ 32 * w = mul-le-mul_right w few.1 in
    within_after (length s₁) (k * w) 1090 (1090 + 32 * w) (many (block w) k s₁) _ (omega arith) (within_many (block w) w (within_block w) k s₁) λ es s₂ u₂.
    within_after (length s₂) 33 1057 1090 (optional s₂) _ (omega arith) (within_optional s₂) λ l s₃ u₃.
    within_after (length s₃) 33 1024 1057 (optional s₃) _ (omega arith) (within_optional s₃) λ r s₄ u₄.
    within_after (length s₄) 1 1023 1024 (octet (λ m. eqb m (k - 1)) s₄) _ (omega arith) (within_octet (λ m. eqb m (k - 1)) s₄) λ m s₅ u₅.
    let fewer : m ≡ k - 1 = eqb-true m (k - 1) (octet_only (λ n. eqb n (k - 1)) m s₄ s₅ u₅).1 in
    within_after (length s₅) (m * 33) 0 1023 (many optional m s₅) (λ ss. close (path_of es l r ss)) (omega arith) (within_many optional 33 within_optional m s₅)
    λ ss s₆ u₆. within_close (path_of es l r ss) s₆

-- where the octets end early, they are fewer than the longest
pub form_ended : (w : ℕ) (a : Octets) (n : ℕ) → form w a ≡ ended n → n < 1091 + 32 * w
unfolding form placed
form_ended w a n e = go (sections w a) (within_sections w a) e
  where
    go : (r : Read Path) → Within (length a) (1091 + 32 * w) r → placed (length a) r ≡ ended n → n < 1091 + 32 * w
    go (got p s) h f = let z : ◌≡◌ {A = ℕ} 0 1 = cc in absurd (omega arith)
    go (stopped short) h f = let z : length a ≡ n = cc in omega arith
    go (stopped (wrong left)) h f = let z : ◌≡◌ {A = ℕ} 0 1 = cc in absurd (omega arith)

-- an octet that can't stand there is at most the one after the longest
pub form_spoilt : (w : ℕ) (a : Octets) (n : ℕ) → form w a ≡ spoilt n → n ≤ 1091 + 32 * w
unfolding form placed
form_spoilt w a n e = go (sections w a) (within_sections w a) e
  where
    go : (r : Read Path) → Within (length a) (1091 + 32 * w) r → placed (length a) r ≡ spoilt n → n ≤ 1091 + 32 * w
    go (got p s) h f = let z : ◌≡◌ {A = ℕ} 0 1 = cc in absurd (omega arith)
    go (stopped short) h f = let z : ◌≡◌ {A = ℕ} 0 1 = cc in absurd (omega arith)
    go (stopped (wrong left)) h f = let z : length a - left ≡ n = cc in omega arith

-- the path that is shown has at most 32 levels
pub shown_low : (w : ℕ) (a : Octets) → height (shown w a) < 32
unfolding shown height
shown_low w a = go (form w a) refl
  where
    go : (f : Form) → form w a ≡ f → height (path_read f) < 32
    go (formed p) e = (form_rendered w a p e).low
    go (ended n) e = omega arith
    go (spoilt n) e = omega arith

-- The verdict

-- a judgement that is no refusal, or one with its number and a place of at most `place`
abbrev JudgedWithin : ℕ → Judgement → Type 0
JudgedWithin place present = Unit {0}
JudgedWithin place absent = Unit {0}
JudgedWithin place (refused m j) = IsRefusal m × (j ≤ place)

judged_further : (place further : ℕ) (v : Judgement) → place ≤ further → JudgedWithin place v → JudgedWithin further v
judged_further place further present h k = tt
judged_further place further absent h k = tt
judged_further place further (refused m j) h k = (k.0, omega (arith, k.1))

-- steps 3 to 6 name a level of the path, or none
judge_within : (H : Octets → Octets) (x d : Octets) (p : Path) → JudgedWithin (height p) (judge H x d p)
unfolding judge
judge_within H x d p = go (hidden x p) (fault x p) (same (H (root_record H x p)) d) (same x (key (foot_entry p))) refl
  where
    go : (o : Bool) (f : Option ℕ) (s k : Bool) → fault x p ≡ f
        → JudgedWithin (height p) (cond o (refused child_at_foot 0) (unless_fault f (cond s (cond k present absent) (refused other_digest 0))))
    go true f s k e = ((omega arith, omega arith), omega arith)
    go false (some j) s k e = ((omega arith, omega arith), fault_height x p j e)
    go false none false k e = ((omega arith, omega arith), omega arith)
    go false none true true e = tt
    go false none true false e = tt

module _ (H : Octets → Octets) (w : ℕ) (x d : Octets) where
  verify_within : (a : Octets) → JudgedWithin (1091 + 32 * w) (verify H w x d a)
  unfolding verify judged
  verify_within a = go (eqb (length x) 20 && eqb (length d) 32) (form w a) refl
    where
      go : (o : Bool) (f : Form) → form w a ≡ f → JudgedWithin (1091 + 32 * w) (cond o (judged (judge H x d) f) (refused size 0))
      go false f e = ((omega arith, omega arith), omega arith)
      go true (ended n) e = ((omega arith, omega arith), omega (arith, form_ended w a n e))
      go true (spoilt n) e = ((omega arith, omega arith), form_spoilt w a n e)
      go true (formed p) e =
          judged_further (height p) (1091 + 32 * w) (judge H x d p) (omega (arith, (form_rendered w a p e).low)) (judge_within H x d p)

  -- a refusal's number, and its place: an octet of the longest, or the one after it
  pub verify_refused : (a : Octets) (m j : ℕ) → verify H w x d a ≡ refused m j → IsRefusal m × (j ≤ 1091 + 32 * w)
  verify_refused a m j e = rw e at (verify_within a)

  -- The extractor

  -- levels passed, of 32; or a refusal's number, and which attestation it is of
  abbrev ExtractedWithin : Extraction → Type 0
  ExtractedWithin (extracted f) = f.passed ≤ 31
  ExtractedWithin (extractor.refused m j) = IsRefusal m × (j ≤ 2)

  module _ (a b : Octets) where
    walk_within : ExtractedWithin (shows (walk H x (shown w a) (shown w b)))
    walk_within = go (walk H x (shown w a) (shown w b)) refl
      where
        go : (o : Option Found) → walk H x (shown w a) (shown w b) ≡ o → ExtractedWithin (shows o)
        go none e = ((omega arith, omega arith), omega arith)
        go (some f) e = omega (arith, walk_passed H x (shown w a) (shown w b) f e, shown_low w a)

    extract_within : (n m : ℕ) → ExtractedWithin (extract H w x d a b n m)
    unfolding extract contradiction
    extract_within n m =
        go (sized w (length x) (length d) n m) (verify H w x d a) (verify H w x d b) (verify_within a) (verify_within b)
      where
        go : (o : Bool) (u v : Judgement) → JudgedWithin (1091 + 32 * w) u → JudgedWithin (1091 + 32 * w) v
            → ExtractedWithin (cond o (contradiction u v (walk H x (shown w a) (shown w b))) (extractor.refused size 0))
        go false u v g h = ((omega arith, omega arith), omega arith)
        go true (refused m j) v g h = (g.0, omega arith)
        go true present (refused m j) g h = (h.0, omega arith)
        go true absent (refused m j) g h = (h.0, omega arith)
        go true present present g h = ((omega arith, omega arith), omega arith)
        go true absent absent g h = ((omega arith, omega arith), omega arith)
        go true present absent g h = walk_within
        go true absent present g h = walk_within

    pub extract_passed : (n m : ℕ) (f : Found) → extract H w x d a b n m ≡ extracted f → f.passed ≤ 31
    extract_passed n m f e = rw e at (extract_within n m)

    pub extract_refused : (n m i j : ℕ) → extract H w x d a b n m ≡ extractor.refused i j → IsRefusal i × (j ≤ 2)
    extract_refused n m i j e = rw e at (extract_within n m)
