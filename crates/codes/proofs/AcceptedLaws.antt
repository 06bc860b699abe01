-- What acceptance says of a text, and its keys line by line.
use mathlib.Core.Path.{◌≡◌, refl, sym, ap, ◌∙◌}
use mathlib.Core.Bool.{true, ◌&&◌}
use mathlib.Core.List.{List, [], ◌∷◌, flatten}
use mathlib.Core.Option.{Option, none, some}
use Prim.Native.Nat.{ℕ, zero, suc, ◌*◌, ◌≤◌, ◌<◌}
use native.Mathlib.Omega.{arith}
use borrow.Author.Tests.{ltb-false, eqb-true, eqb-false}
use lib.Dec.{ltb, eqb}
use lib.ListN.{length, take, drop}
use Rattle.answer.specs.Answer.{Done}
use Rattle.octets.specs.Order.{Octets, same}
use Rattle.codes.specs.Code.{key_of}
use Rattle.codes.specs.Count.{is_count, number}
use Rattle.codes.specs.Text.{Reading, accepted, refused, ended, line, rest, fault, more, codes, counted, second_line, opening, reading}
use Rattle.codes.specs.Read.{answer, keys}
use Rattle.codes.proofs.Tests.{both, passed, held}
use Rattle.codes.proofs.TextLaws.{code_parts, sound_line}

pub record Accepted (room : ℕ) (s : Octets) (ks : List Octets) : Type 0 where
  pub short : length s ≤ 65535
  pub opens : same (take 6 s) opening ≡ true
  pub second_ended : ended (drop 6 s) ≡ true
  pub count : is_count (line (drop 6 s)) ≡ true
  pub some_codes : 0 < number (line (drop 6 s))
  pub few : number (line (drop 6 s)) ≤ 3000
  pub fits : 20 * number (line (drop 6 s)) ≤ room
  pub body : codes (number (line (drop 6 s))) 3 none (rest (drop 6 s)) ≡ accepted ks

pub reading_accepted : (room : ℕ) (s : Octets) {ks : List Octets} → reading room s ≡ accepted ks → Accepted room s ks
unfolding reading second_line counted
reading_accepted room s {ks} e =
    let s₂ = drop 6 s in
    let n = number (line s₂) in
    let h₁ = passed (ltb 65535 (length s)) 1 0 _ e in
    let h₂ = held (same (take 6 s) opening) 12 1 _ h₁.1 in
    let h₃ = held (ended s₂ && is_count (line s₂)) 12 2 _ h₂.1 in
    let b = both (ended s₂) (is_count (line s₂)) h₃.0 in
    let h₄ = passed (eqb n 0) 2 2 _ h₃.1 in
    let h₅ = passed (ltb 3000 n) 4 2 _ h₄.1 in
    let h₆ = passed (ltb room (20 * n)) 6 0 _ h₅.1 in
    let ne = eqb-false n 0 h₄.0 in
    record {
      short = ltb-false 65535 (length s) h₁.0;
      opens = h₂.0;
      second_ended = b.0;
      count = b.1;
      some_codes = omega arith;
      few = ltb-false 3000 n h₅.0;
      fits = ltb-false room (20 * n) h₆.0;
      body = h₆.1;
    }

pub record Told (r : Reading) (n : ℕ) : Type 0 where
  pub those : List Octets
  pub is : r ≡ accepted those
  pub many : length those ≡ n

pub answer_done : (r : Reading) (n : ℕ) → answer r ≡ Done n → Told r n
unfolding answer
answer_done (accepted ks) n e = record { those = ks; is = refl; many = cc }
answer_done (refused m p) n e = let z : ◌≡◌ {A = ℕ} 0 1 = cc in absurd (omega arith)

-- Code lines, one by one

pub record Front (k : Octets) (r : Reading) (ks : List Octets) : Type 0 where
  pub others : List Octets
  pub is : r ≡ accepted others
  pub whole : ks ≡ k ∷ others

pub more_accepted : (k : Octets) (r : Reading) (ks : List Octets) → more k r ≡ accepted ks → Front k r ks
unfolding more
more_accepted k (accepted js) ks e = record { others = js; is = refl; whole = cc }
more_accepted k (refused m p) ks e = let z : ◌≡◌ {A = ℕ} 0 1 = cc in absurd (omega arith)

-- n lines of at most 20 octets, each ended
abbrev pub Sound : ℕ → Octets → Type 0
Sound zero s = Unit {0}
Sound (suc n) s = (ended s ≡ true) × (length (line s) ≤ 20) × Sound n (rest s)

-- the keys of n lines
unfoldable pub line_keys : ℕ → Octets → List Octets
line_keys zero s = []
line_keys (suc n) s = key_of (line s) ∷ line_keys n (rest s)

pub line_keys_length : (n : ℕ) (s : Octets) → length (line_keys n s) ≡ n
unfolding line_keys
line_keys_length zero s = refl
line_keys_length (suc n) s = ap suc (line_keys_length n (rest s))

pub codes_sound : (n p : ℕ) (b : Option Octets) (s : Octets) (ks : List Octets) → codes n p b s ≡ accepted ks → Sound n s × (ks ≡ line_keys n s)
unfolding codes line_keys
codes_sound zero p b [] ks e = (tt, cc)
codes_sound zero p b (c ∷ s) ks e = let z : ◌≡◌ {A = ℕ} 0 1 = cc in absurd (omega arith)
codes_sound (suc n) p b s ks e =
    let h = held (eqb (fault b s) 0) (fault b s) p _ e in
    let l = sound_line b s (eqb-true (fault b s) 0 h.0) in
    let m = more_accepted (key_of (line s)) (codes n (suc p) (some (key_of (line s))) (rest s)) ks h.1 in
    let t = codes_sound n (suc p) (some (key_of (line s))) (rest s) m.others m.is in
    ((l.is_ended, (code_parts (line s) l.code).few, t.0), m.whole ∙ ap (λ (js : List Octets). key_of (line s) ∷ js) t.1)

-- Writing

-- accepted code lines are sound, and their keys are what is written
pub accepted_codes : (n : ℕ) (s : Octets) → answer (codes n 3 none s) ≡ Done n → Sound n s × (keys (codes n 3 none s) ≡ flatten (line_keys n s))
unfolding keys
accepted_codes n s e =
    let t = answer_done (codes n 3 none s) n e in
    let c = codes_sound n 3 none s t.those t.is in
    (c.0, rw t.is (ap flatten c.1))

-- an accepted text leaves room for its keys
pub record Writable (room n : ℕ) : Type 0 where
  pub fits : 20 * n ≤ room

pub writable : (room : ℕ) (text : Octets) (n : ℕ) → answer (reading room text) ≡ Done n → Writable room n
writable room text n e =
    let t = answer_done (reading room text) n e in
    let a = reading_accepted room text t.is in
    let c = codes_sound (number (line (drop 6 text))) 3 none (rest (drop 6 text)) t.those a.body in
    let m : number (line (drop 6 text)) ≡ n = sym (ap length c.1 ∙ line_keys_length (number (line (drop 6 text))) (rest (drop 6 text))) ∙ t.many in
    record { fits = omega (arith, a.fits) }
