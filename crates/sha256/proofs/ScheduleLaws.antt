-- A store at t of W_t makes the first t + 1 words of the schedule of the first t.
use Rattle.std.proofs.Common.{◌≡◌, ℕ, zero, suc, ◌+◌, ◌-◌, ◌<◌, ◌≤◌, Bool, true, false, ltb, List, [], ◌∷◌, ◌++◌, length, get_or, take, set, sym, refl, ◌∙◌, not-suc-le-zero, arith, length-append, get_or-take, add-one, ltb-false, ltb-true, le-ltb, lt-ltb}
use Rattle.std.proofs.lemmas.List.{take_more_set}
use lib.ListN.{get_or-append}
use lib.Seq.{get_or_at}
use Rattle.octets.specs.Order.{Octets}
use Rattle.sha256.specs.Fips180.{M, W, next, schedule}

pub W_block : (b : Octets) (w : List ℕ) (t : ℕ) → t < 16 → W b w t ≡ M b t
unfolding W
W_block b w t h = rw (lt-ltb t 16 h)

pub W_next : (b : Octets) (w : List ℕ) (t : ℕ) → 16 ≤ t → W b w t ≡ next w t
unfolding W
W_next b w t h = rw (le-ltb t 16 h)

-- what the next word is made of stands among the first t
next_take : (w : List ℕ) (t : ℕ) → 16 ≤ t → next (take t w) t ≡ next w t
unfolding next
next_take w t h =
    rw (get_or-take t w (t - 2) 0 (omega arith), get_or-take t w (t - 7) 0 (omega arith), get_or-take t w (t - 15) 0 (omega arith), get_or-take t w (t - 16) 0 (omega arith))

pub schedule_size : (b : Octets) (n : ℕ) → length (schedule b n) ≡ n
unfolding schedule
schedule_size b zero = refl
schedule_size b (suc n) = simp length-append (omega (arith, schedule_size b n))

-- a word of a schedule of any length is W of those before it
schedule_at : (b : Octets) (n t : ℕ) → t < n → get_or (schedule b n) t 0 ≡ W b (schedule b t) t
unfolding schedule
schedule_at b zero t h = absurd (not-suc-le-zero h)
schedule_at b (suc n) t h = go (ltb t n) refl (schedule_at b n t)
  where
    go : (x : Bool) → ltb t n ≡ x → (t < n → get_or (schedule b n) t 0 ≡ W b (schedule b t) t)
        → get_or (schedule b n ++ (W b (schedule b n) n ∷ [])) t 0 ≡ W b (schedule b t) t
    go true e f =
        let l : t < n = ltb-true t n e in
        get_or-append (schedule b n) (W b (schedule b n) n ∷ []) 0 t (omega (arith, schedule_size b n)) ∙ f l
    go false e f =
        let k : t ≡ n = omega (arith, ltb-false t n e) in
        rw k (get_or_at (schedule b n) (W b (schedule b n) n) [] 0 n (schedule_size b n))

schedule_same : (b : Octets) (m n i : ℕ) → i < m → i < n → get_or (schedule b m) i 0 ≡ get_or (schedule b n) i 0
schedule_same b m n i h l = schedule_at b m i h ∙ sym (schedule_at b n i l)

pub schedule_block : (b : Octets) (n t : ℕ) → t < n → t < 16 → get_or (schedule b n) t 0 ≡ M b t
schedule_block b n t h l = schedule_at b n t h ∙ W_block b (schedule b t) t l

pub schedule_next : (b : Octets) (n t : ℕ) → 16 ≤ t → t < n → get_or (schedule b n) t 0 ≡ next (schedule b n) t
unfolding next
schedule_next b n t l h =
    let k : (i : ℕ) → i < t → get_or (schedule b t) i 0 ≡ get_or (schedule b n) i 0 = λ i j. schedule_same b t n i j (omega arith) in
    schedule_at b n t h ∙ W_next b (schedule b t) t l
    ∙ rw (k (t - 2) (omega arith), k (t - 7) (omega arith), k (t - 15) (omega arith), k (t - 16) (omega arith))

module _ (b : Octets) (t : ℕ) (w : List ℕ) (h : t < length w) (p : take t w ≡ schedule b t) where
  word_more : (v : ℕ) → v ≡ W b (schedule b t) t → take (t + 1) (set w t v) ≡ schedule b (t + 1)
  unfolding schedule
  word_more v q = rw (take_more_set w t v h, p, q, add-one)

  pub block_word_more : {v : ℕ} → t < 16 → v ≡ M b t → take (t + 1) (set w t v) ≡ schedule b (t + 1)
  block_word_more {v} l q = word_more v (rw (W_block b (schedule b t) t l) q)

  pub next_word_more : {v : ℕ} → 16 ≤ t → v ≡ next w t → take (t + 1) (set w t v) ≡ schedule b (t + 1)
  next_word_more {v} l q = word_more v (rw (W_next b (schedule b t) t l, ← p, next_take w t l) q)
