-- The writing loop: after i lines their keys stand at the buffer's front, and those of the lines that are left make up the whole.
use mathlib.Core.Path.{◌≡◌, refl, sym, ◌∙◌}
use mathlib.Core.List.{[], ◌++◌, flatten, append_assoc, append-nil}
use Prim.Native.Nat.{ℕ, suc, ◌+◌, ◌-◌, ◌*◌, ◌≤◌, ◌<◌}
use native.Mathlib.Omega.{arith}
use lib.ListN.{length, length-append}
use Rattle.answer.specs.Answer.{Done, Refused, written}
use Rattle.octets.specs.Order.{Octets}
use Rattle.octets.specs.Put.{put, Wrote}
use Rattle.octets.proofs.PutLaws.{put_put, put_none, put_front}
use Rattle.codes.specs.Code.{key_of}
use Rattle.codes.specs.Text.{line, rest, codes, reading}
use Rattle.codes.specs.Read.{Read, answer, keys}
use mathlib.Core.Option.{none}
use Rattle.codes.proofs.CodeLaws.{key_of_length}
use Rattle.codes.proofs.AcceptedLaws.{Sound, line_keys}

pub record Writing (n : ℕ) (whole out₀ out lines : Octets) (i : ℕ) : Type 0 where
  pub done : Octets
  pub many : length done ≡ 20 * i
  pub front : out ≡ put out₀ 0 done
  pub sound : Sound (n - i) lines
  pub all : done ++ flatten (line_keys (n - i) lines) ≡ whole

pub writing_start : (n : ℕ) (whole out lines : Octets) → Sound n lines → whole ≡ flatten (line_keys n lines) → Writing n whole out out lines 0
writing_start n whole out lines h e =
    let z : n - 0 ≡ n = omega arith in
    record { done = []; many = omega arith; front = sym (put_none out 0); sound = rw z h; all = rw z (sym e) }

-- one line more
module _ (n : ℕ) (whole out₀ out lines : Octets) (i : ℕ) (h : Writing n whole out₀ out lines i) (l : i < n) where
  others : Sound (suc (n - (i + 1))) lines
  others = let m : n - i ≡ suc (n - (i + 1)) = omega arith in rw m at h.sound

  key_length : length (key_of (line lines)) ≡ 20
  key_length = key_of_length (line lines) others.1

  pub writing_turn : (out' lines' : Octets) (r : ℕ) → 20 * n ≤ length out₀ → Wrote out (20 * i) (key_of (line lines)) out' r → lines' ≡ rest lines
      → Writing n whole out₀ out' lines' (i + 1)
  unfolding line_keys flatten
  writing_turn out' lines' r room w e =
      let key : Octets = key_of (line lines) in
      let m : n - i ≡ suc (n - (i + 1)) = omega arith in
      let z : 0 + length h.done ≡ 20 * i = omega (arith, h.many) in
      let a : h.done ++ (key ++ flatten (line_keys (n - (i + 1)) (rest lines))) ≡ whole = rw m at h.all in
      let p : put (put out₀ 0 h.done) (20 * i) key ≡ put out₀ 0 (h.done ++ key) = rw z at (put_put out₀ 0 h.done key (omega (arith, h.many))) in
      record {
        done = h.done ++ key;
        many = length-append h.done key ∙ omega (arith, h.many, key_length);
        front = w.left ∙ rw h.front p;
        sound = rw e others.2;
        all = rw e (append_assoc h.done key _ ∙ a);
      }

pub writing_end : {n : ℕ} {whole out₀ out lines : Octets} {i : ℕ} → Writing n whole out₀ out lines i → n ≤ i → out ≡ put out₀ 0 whole
unfolding line_keys flatten
writing_end {n} {whole} {out₀} {out} {lines} {i} h l =
    let m : n - i ≡ 0 = omega arith in
    let a : h.done ++ [] ≡ whole = rw m at h.all in
    rw (← a, append-nil h.done) h.front

-- What reading promises

pub read_refused : (text out : Octets) (m p : ℕ) → answer (reading (length out) text) ≡ Refused m p → Read text out (Refused m p) out
unfolding written
read_refused text out m p e = record { answered = sym e; left = refl }

pub read_done : (text out lines out' : Octets) (n : ℕ) → reading (length out) text ≡ codes n 3 none lines → answer (codes n 3 none lines) ≡ Done n
    → out' ≡ put out 0 (keys (codes n 3 none lines)) → Read text out (Done n) out'
unfolding written
read_done text out lines out' n e a w = record {
  answered = rw e (sym a);
  left = rw e (w ∙ put_front out (keys (codes n 3 none lines)));
}
