-- Nothing is skipped: an accepted text is the writing of its keys' codes, and the writing of codes is accepted. Line by line: an
-- ended line and what follows its LF make up the text again, and a code is its key without the zeros.
use mathlib.Core.Path.{◌≡◌, refl, sym, ap, ap₂, ◌∙◌}
use mathlib.Core.Bool.{Bool, true, false, cond}
use mathlib.Core.List.{List, [], ◌∷◌, ◌++◌, map}
use mathlib.Core.Option.{Option, none, some}
use Prim.Native.Nat.{ℕ, zero, suc, ◌-◌, ◌*◌, ◌≤◌, ◌<◌}
use native.Mathlib.Nat.{le_of_suc-le-suc, not-suc-le-zero}
use native.Mathlib.Omega.{arith}
use borrow.Author.Tests.{lt-ltb, le-ltb, ltb-true, ne_eqb, eqb-true}
use lib.Dec.{eqb}
use lib.ListN.{length, take, drop, get_or, replicate, length-append, length-map, take-append-drop}
use lib.Seq.{split_at, take_at, drop_at}
use Rattle.octets.specs.Order.{Octets}
use Rattle.octets.proofs.OrderLaws.{same_true, same_refl}
use Rattle.codes.specs.Code.{within, all, digit, letter, hyphen, character, is_code, key_of}
use Rattle.codes.specs.Count.{number}
use Rattle.codes.specs.Text.{accepted, before_LF, ended, line, rest, above, fault, more, codes, counted, second_line, opening, reading}
use Rattle.show.specs.Decimal.{decimal}
use Rattle.codes.specs.Writing.{code_lines, text_of, code_of, all_codes, ascending, NothingSkipped, EveryListingAccepted}
use Rattle.codes.proofs.Tests.{both, held}
use Rattle.codes.proofs.CountLaws.{count_parts}
use Rattle.codes.proofs.DecimalLaws.{decimal_number, decimal_counts}
use Rattle.codes.proofs.TextLaws.{code_parts, sound_line, line_sound, zero_no_character}
use Rattle.codes.proofs.AcceptedLaws.{reading_accepted, more_accepted, line_keys_length, codes_sound}

-- A code is its key without the zeros

code_of_zeros : (n : ℕ) → code_of (replicate n 0) ≡ []
unfolding code_of
code_of_zeros zero = refl
code_of_zeros (suc n) = refl

code_of_append : (s : Octets) (n : ℕ) → all character s ≡ true → code_of (s ++ replicate n 0) ≡ s
unfolding code_of all
code_of_append [] n e = code_of_zeros n
code_of_append (zero ∷ s) n e = let z : ◌≡◌ {A = ℕ} 0 1 = cc zero_no_character in absurd (omega arith)
code_of_append (suc c ∷ s) n e =
    let h = both (character (suc c)) (all character s) e in
    rw (ne_eqb (suc c) 0 (λ z. omega arith), code_of_append s n h.1)

code_of_key : (c : Octets) → is_code c ≡ true → code_of (key_of c) ≡ c
unfolding key_of
code_of_key c e = code_of_append c (20 - length c) (code_parts c e).characters

-- A line, its LF and the rest

LF_there : (s : Octets) → before_LF s < length s → get_or s (before_LF s) 0 ≡ 10
unfolding before_LF
LF_there [] h = absurd (not-suc-le-zero h)
LF_there (c ∷ s) h = go (eqb c 10) refl h (LF_there s)
  where
    go : (b : Bool) → eqb c 10 ≡ b → cond b 0 (suc (before_LF s)) < suc (length s) → (before_LF s < length s → get_or s (before_LF s) 0 ≡ 10)
        → get_or (c ∷ s) (cond b 0 (suc (before_LF s))) 0 ≡ 10
    go true e l f = eqb-true c 10 e
    go false e l f = f (le_of_suc-le-suc l)

line_rest : (s : Octets) → ended s ≡ true → s ≡ line s ++ 10 ∷ rest s
unfolding ended line rest
line_rest s e =
    let h = ltb-true (before_LF s) (length s) e in
    rw (LF_there s h) at (split_at s (before_LF s) 0 h)

-- no LF stands in a code or a count
no_LF : (test : ℕ → Bool) (s t : Octets) → test 10 ≡ false → all test s ≡ true → before_LF (s ++ 10 ∷ t) ≡ length s
unfolding before_LF all
no_LF test [] t f e = refl
no_LF test (c ∷ s) t f e =
    let h = both (test c) (all test s) e in
    let ne : c ≡ 10 → ⊥ = λ q. (let z : ◌≡◌ {A = ℕ} 0 1 = cc in omega arith) in
    rw (ne_eqb c 10 ne, no_LF test s t f h.1)

LF_no_character : character 10 ≡ false
unfolding character digit letter within hyphen
LF_no_character = refl

LF_no_digit : digit 10 ≡ false
unfolding digit within
LF_no_digit = refl

-- a line that is written is read back
module _ (test : ℕ → Bool) (s t : Octets) (f : test 10 ≡ false) (e : all test s ≡ true) where
  line_written : line (s ++ 10 ∷ t) ≡ s
  unfolding line
  line_written = rw (no_LF test s t f e) (take_at s (10 ∷ t) (length s) refl)

  ended_written : ended (s ++ 10 ∷ t) ≡ true
  unfolding ended
  ended_written = rw (no_LF test s t f e) (lt-ltb (length s) (length (s ++ 10 ∷ t)) (simp length-append (omega arith)))

  rest_written : rest (s ++ 10 ∷ t) ≡ t
  unfolding rest
  rest_written = rw (no_LF test s t f e) (drop_suc s)
    where
      drop_suc : (r : Octets) → drop (suc (length r)) (r ++ 10 ∷ t) ≡ t
      drop_suc [] = refl
      drop_suc (c ∷ r) = drop_suc r

-- The code lines

record Lines (before : Option Octets) (s : Octets) (ks : List Octets) : Type 0 where
  octets : s ≡ code_lines (map code_of ks)
  its_keys : map key_of (map code_of ks) ≡ ks
  codes : all_codes (map code_of ks) ≡ true
  order : ascending before ks ≡ true

codes_lines : (n p : ℕ) (b : Option Octets) (s : Octets) (ks : List Octets) → codes n p b s ≡ accepted ks → Lines b s ks
unfolding codes code_lines all_codes ascending
codes_lines zero p b [] [] e = record { octets = refl; its_keys = refl; codes = refl; order = refl }
codes_lines zero p b [] (k ∷ ks) e = let z : ◌≡◌ {A = ℕ} 0 1 = cc in absurd (omega arith)
codes_lines zero p b (c ∷ s) ks e = let z : ◌≡◌ {A = ℕ} 0 1 = cc in absurd (omega arith)
codes_lines (suc n) p b s ks e =
    let h = held (eqb (fault b s) 0) (fault b s) p _ e in
    let l = sound_line b s (eqb-true (fault b s) 0 h.0) in
    let k = key_of (line s) in
    let m = more_accepted k (codes n (suc p) (some k) (rest s)) ks h.1 in
    let t = codes_lines n (suc p) (some k) (rest s) m.others m.is in
    let c : code_of k ≡ line s = code_of_key (line s) l.code in
    rw m.whole (record {
      octets = rw c (line_rest s l.is_ended ∙ ap (λ (r : Octets). line s ++ 10 ∷ r) t.octets);
      its_keys = rw c (ap (λ (r : List Octets). k ∷ r) t.its_keys);
      codes = rw (c, l.code) t.codes;
      order = rw l.rises t.order;
    })

lines_codes : (p : ℕ) (b : Option Octets) (cs : List Octets) → all_codes cs ≡ true → ascending b (map key_of cs) ≡ true
    → codes (length cs) p b (code_lines cs) ≡ accepted (map key_of cs)
unfolding codes code_lines all_codes ascending more
lines_codes p b [] a o = refl
lines_codes p b (c ∷ cs) a o =
    let h = both (is_code c) (all_codes cs) a in
    let k = both (above b (key_of c)) (ascending (some (key_of c)) (map key_of cs)) o in
    let ch = (code_parts c h.0).characters in
    let li = line_written character c (code_lines cs) LF_no_character ch in
    let en = ended_written character c (code_lines cs) LF_no_character ch in
    let re = rest_written character c (code_lines cs) LF_no_character ch in
    let f : fault b (c ++ 10 ∷ code_lines cs) ≡ 0 = line_sound b (c ++ 10 ∷ code_lines cs) (record { is_ended = en; code = rw li h.0; rises = rw li k.0 }) in
    rw (f, li, re, lines_codes (suc p) (some (key_of c)) cs h.1 k.1)

-- The whole text

opening_length : length opening ≡ 6
unfolding opening
opening_length = refl

pub nothing_skipped : NothingSkipped
unfolding text_of
nothing_skipped room text ks e =
    let a = reading_accepted room text e in
    let s = drop 6 text in
    let l = line s in
    let n = number l in
    let b = codes_lines n 3 none (rest s) ks a.body in
    let c = codes_sound n 3 none (rest s) ks a.body in
    let m : length ks ≡ n = ap length c.1 ∙ line_keys_length n (rest s) in
    let m' : length (map code_of ks) ≡ n = length-map ks code_of ∙ m in
    let count : l ≡ decimal (length (map code_of ks)) = sym (rw m' (decimal_number l a.count)) in
    let first : text ≡ opening ++ s = sym (rw (← same_true (take 6 text) opening a.opens) (take-append-drop 6 text)) in
    let second : s ≡ decimal (length (map code_of ks)) ++ 10 ∷ code_lines (map code_of ks) =
    line_rest s a.second_ended ∙ ap₂ (λ (x y : Octets). x ++ 10 ∷ y) count b.octets in
    record {
      octet_for_octet = first ∙ ap (λ (r : Octets). opening ++ r) second;
      its_keys = b.its_keys;
      listing = record {
        codes = b.codes;
        order = rw b.its_keys b.order;
        some_codes = rw m' a.some_codes;
        few = rw m' a.few;
        fits = rw m' a.fits;
      };
    }

code_lines_length : (cs : List Octets) → all_codes cs ≡ true → length (code_lines cs) ≤ 21 * length cs
unfolding code_lines all_codes
code_lines_length [] e = omega arith
code_lines_length (c ∷ cs) e =
    let h = both (is_code c) (all_codes cs) e in
    simp length-append (omega (arith, (code_parts c h.0).few, code_lines_length cs h.1))

pub every_listing_accepted : EveryListingAccepted
unfolding reading second_line counted text_of
every_listing_accepted room cs h =
    let n = length cs in
    let d = decimal_counts n (omega (arith, h.few)) in
    let p = count_parts (decimal n) d.count in
    let body = code_lines cs in
    let t : Octets = decimal n ++ 10 ∷ body in
    let li = line_written digit (decimal n) body LF_no_digit p.digits in
    let en = ended_written digit (decimal n) body LF_no_digit p.digits in
    let re = rest_written digit (decimal n) body LF_no_digit p.digits in
    let six : length opening ≡ 6 = opening_length in
    let short : length (opening ++ t) ≤ 65535 = simp length-append (omega (arith, p.few, code_lines_length cs h.codes, h.few)) in
    rw (
      le-ltb 65535 (length (opening ++ t)) short,
      take_at opening t 6 six,
      same_refl opening,
      drop_at opening t 6 six,
      en,
      li,
      d.count,
      d.makes,
      re,
      ne_eqb n 0 (λ z. omega (arith, h.some_codes)),
      le-ltb 3000 n h.few,
      le-ltb room (20 * n) h.fits,
    ) (lines_codes 3 none cs h.codes h.order)
