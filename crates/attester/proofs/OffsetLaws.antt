-- The readers in terms of an offset into the octets: what is left at the offset `at` is `drop at a`, and of `length a` octets
-- that many less `at` are left there.
use mathlib.Core.Path.{◌≡◌, refl, sym, ap, ◌∙◌}
use mathlib.Core.Bool.{Bool, true, false}
use mathlib.Core.List.{[]}
use mathlib.Core.Option.{none, some}
use Prim.Native.Nat.{ℕ, zero, suc, ◌+◌, ◌-◌, ◌*◌, ◌≤◌, ◌<◌}
use native.Mathlib.Decide.{dec_le}
use native.Mathlib.Omega.{arith}
use borrow.Author.Tests.{le-leb, lt-leb}
use lib.Dec.{leb}
use lib.ListN.{length, take, drop, get_or, length-append, length-drop, drop_of_length-le}
use lib.Seq.{drop-cons, drop-drop, drop_at}
use Rattle.octets.specs.Order.{Octets}
use Rattle.attester.specs.Entry.{entries}
use Rattle.attester.specs.Record.{Child}
use Rattle.attester.specs.Reader.{short, wrong, got, stopped, octet, block, many, close}
use Rattle.attester.specs.Form.{optional}
use Rattle.attester.specs.Attestation.{optional_octets}
use Rattle.attester.proofs.FormLaws.{optional_inverse}

-- One octet

module _ (stands : ℕ → Bool) (a : Octets) (at : ℕ) where
  pub octet_end : length a ≤ at → octet stands (drop at a) ≡ stopped short
  unfolding octet
  octet_end h = rw (drop_of_length-le a h)

  pub octet_at : at < length a → stands (get_or a at 0) ≡ true → octet stands (drop at a) ≡ got (get_or a at 0) (drop (suc at) a)
  unfolding octet
  octet_at h e = rw (drop-cons a at 0 h, e)

  pub octet_wrong : at < length a → stands (get_or a at 0) ≡ false → octet stands (drop at a) ≡ stopped (wrong (length a - at))
  unfolding octet
  octet_wrong h e = rw (drop-cons a at 0 h, e) (ap (λ n. stopped (wrong n)) (simp length-drop (omega arith)))

-- No octets follow

module _ {A : Type 0} (v : A) (a : Octets) (at : ℕ) where
  pub close_end : length a ≤ at → close v (drop at a) ≡ got v []
  unfolding close
  close_end h = rw (drop_of_length-le a h)

  pub close_left : at < length a → close v (drop at a) ≡ stopped (wrong (length a - at))
  unfolding close
  close_left h = rw (drop-cons a at 0 h) (ap (λ n. stopped (wrong n)) (simp length-drop (omega arith)))

-- A block, and n entries of w octets

module _ (n : ℕ) (a : Octets) (at : ℕ) where
  pub block_at : at + n ≤ length a → block n (drop at a) ≡ got (take n (drop at a)) (drop (at + n) a)
  unfolding block
  block_at h = rw (le-leb n (length (drop at a)) (simp length-drop (omega arith)), drop-drop n at a)

  pub block_end : at ≤ length a → length a < at + n → block n (drop at a) ≡ stopped short
  unfolding block
  block_end g h = rw (lt-leb n (length (drop at a)) (simp length-drop (omega arith)))

pub blocks_at : (w n : ℕ) (a : Octets) (at : ℕ) → at + n * w ≤ length a
    → many (block w) n (drop at a) ≡ got (entries w n (drop at a)) (drop (at + n * w) a)
unfolding many entries
blocks_at w zero a at h = let e : at + 0 * w ≡ at = omega arith in rw e
blocks_at w (suc n) a at h =
    let e : at + suc n * w ≡ at + w + n * w = omega arith in
    rw (block_at w a at (omega arith), blocks_at w n a (at + w) (omega arith), e, drop-drop w at a)

pub blocks_end : (w n : ℕ) (a : Octets) (at : ℕ) → at ≤ length a → length a < at + n * w → many (block w) n (drop at a) ≡ stopped short
unfolding many
blocks_end w zero a at g h = absurd (omega arith)
blocks_end w (suc n) a at g h =
    elim (dec_le (at + w) (length a)) [
      | yes k ↦ rw (block_at w a at k, blocks_end w n a (at + w) k (omega arith))
      | no k ↦ rw (block_end w a at g (omega arith))
    ]

-- An optional label, by the octet of its count

module _ (a : Octets) (at : ℕ) where
  pub optional_end : length a ≤ at → optional (drop at a) ≡ stopped short
  unfolding optional
  optional_end h = rw (octet_end (λ n. leb n 1) a at h)

  pub optional_wrong : at < length a → 1 < get_or a at 0 → optional (drop at a) ≡ stopped (wrong (length a - at))
  unfolding optional
  optional_wrong h k = rw (octet_wrong (λ n. leb n 1) a at h (lt-leb (get_or a at 0) 1 k))

  pub optional_none : at < length a → get_or a at 0 ≡ 0 → optional (drop at a) ≡ got none (drop (suc at) a)
  unfolding optional
  optional_none h e = rw (octet_at (λ n. leb n 1) a at h (rw e), e)

  pub optional_some : at + 33 ≤ length a → get_or a at 0 ≡ 1
      → optional (drop at a) ≡ got (some (take 32 (drop (suc at) a))) (drop (at + 33) a)
  unfolding optional
  optional_some h e =
      let next : suc at + 32 ≡ at + 33 = omega arith in
      rw (octet_at (λ n. leb n 1) a at (omega arith) (rw e), e, block_at 32 a (suc at) (omega arith), next)

  pub optional_cut : at < length a → length a < at + 33 → get_or a at 0 ≡ 1 → optional (drop at a) ≡ stopped short
  unfolding optional
  optional_cut h k e = rw (octet_at (λ n. leb n 1) a at h (rw e), e, block_end 32 a (suc at) h (omega arith))

-- an optional label stands at `at`, and ends before `next`
pub record OptionalAt (a : Octets) (at next : ℕ) : Type 0 where
  pub child : Child
  pub is : optional (drop at a) ≡ got child (drop next a)
  pub further : at < next
  pub inside : next ≤ length a

optional_octets_some : (c : Child) → 0 < length (optional_octets c)
unfolding optional_octets
optional_octets_some none = omega arith
optional_octets_some (some l) = omega arith

-- what was read of one tells where it ends
pub optional_at : (a : Octets) (at : ℕ) (c : Child) (s : Octets) → at ≤ length a → optional (drop at a) ≡ got c s
    → OptionalAt a at (length a - length s)
optional_at a at c s h u =
    let d = optional_inverse.only c (drop at a) s u in
    let n = length (optional_octets c) in
    let all : length a - at ≡ n + length s = sym (length-drop at a) ∙ (ap length d.0 ∙ length-append (optional_octets c) s) in
    let ends : at + n ≡ length a - length s = omega (arith, optional_octets_some c) in
    let rest : s ≡ drop (at + n) a = sym (drop_at (optional_octets c) s n refl) ∙ (ap (drop n) (sym d.0) ∙ drop-drop n at a) in
    record {
      child = c;
      is = u ∙ ap (got c) (rest ∙ ap (λ k. drop k a) ends);
      further = omega (arith, optional_octets_some c);
      inside = omega arith;
    }
