-- The ends of `contradict` and of `drill`, in the code's order. A text that is read as one key leaves that key at the buffer's front.
use mathlib.Core.Path.{◌≡◌, refl, sym, ◌∙◌}
use mathlib.Core.List.{List, [], ◌∷◌, ◌++◌, append-nil, flatten}
use mathlib.Core.Option.{Option, none, some}
use Prim.Native.Nat.{ℕ, ◌≤◌, ◌<◌}
use native.Mathlib.Omega.{arith}
use borrow.Author.Tests.{ne_eqb, lt-ltb}
use lib.ListN.{length, take, drop}
use lib.Seq.{take_at}
use Rattle.answer.specs.Answer.{Answer, written}
use Rattle.answer.specs.Answer as answer
use Rattle.answer.specs.Refusals.{size, more_codes}
use Rattle.octets.specs.Order.{Octets}
use Rattle.codes.specs.Text.{Reading, accepted, reading}
use Rattle.codes.specs.Text as text
use Rattle.codes.specs.Read.{Read}
use Rattle.codes.specs.Read as read
use Rattle.codes.proofs.AcceptedLaws.{answer_done}
use Rattle.contradiction.specs.Outcome.{Outcome, Found, None, Refused}
use Rattle.contradiction.specs.Trial.{number_key, first_alike, trial_answer}
use Rattle.contradiction.specs.Drill.{handed, number, refused, tried, drilled, drilling, drill_answer, first_buffer, second_buffer, CarriedOut, Drilled}
use Rattle.contradiction.proofs.ReadLaws.{read_many, read_sized}

-- `contradict`

none_tried : (k out₁ out₂ : Octets) (o : Option ℕ) → None ≡ trial_answer o → CarriedOut (tried k o) out₁ out₂ None out₁ out₂
unfolding trial_answer tried drill_answer first_buffer second_buffer
none_tried k out₁ out₂ none e = record { answered = refl; first_left = refl; second_left = refl }
none_tried k out₁ out₂ (some n) e = let z : ◌≡◌ {A = ℕ} 0 1 = cc in absurd (omega arith)

found_tried : (k : Octets) (o : Option ℕ) {n : ℕ} → Found n ≡ trial_answer o → tried k o ≡ number n (handed k (number_key n))
unfolding trial_answer tried
found_tried k none e = let z : ◌≡◌ {A = ℕ} 0 1 = cc in absurd (omega arith)
found_tried k (some m) {n} e = let q : n ≡ m = cc in rw q

module _ (k out₁ out₂ : Octets) (bound : ℕ) where
  pub contradict_none : None ≡ trial_answer (first_alike k bound 0) → CarriedOut (tried k (first_alike k bound 0)) out₁ out₂ None out₁ out₂
  contradict_none e = none_tried k out₁ out₂ (first_alike k bound 0) e

  pub contradict_found : {n : ℕ} {r : Outcome} {out₁' out₂' : Octets} → Found n ≡ trial_answer (first_alike k bound 0)
      → CarriedOut (number n (handed k (number_key n))) out₁ out₂ r out₁' out₂' → CarriedOut (tried k (first_alike k bound 0)) out₁ out₂ r out₁' out₂'
  contradict_found e c = rw (found_tried k (first_alike k bound 0) e) c

answer_refused : (q : Reading) {m p : ℕ} → answer.Refused m p ≡ read.answer q → q ≡ text.refused m p
unfolding read.answer
answer_refused (accepted ks) e = cc
answer_refused (text.refused n q) e = cc

-- `drill`

module _ (s : Octets) (bound : ℕ) (out₁ out₂ : Octets) where
  refuses : {m p : ℕ} → drilling s bound (length out₁) (length out₂) ≡ refused m p → Drilled s bound out₁ out₂ (Refused m p) out₁ out₂
  unfolding drill_answer first_buffer second_buffer
  refuses e = record { answered = rw e; first_left = rw e; second_left = rw e }

  pub drilled_first_size : (length out₁ ≡ 85 → ⊥) → Drilled s bound out₁ out₂ (Refused size 0) out₁ out₂
  unfolding drilling
  drilled_first_size h = refuses (rw (ne_eqb (length out₁) 85 h))

  module _ (h₁ : length out₁ ≡ 85) where
    pub drilled_second_size : (length out₂ ≡ 85 → ⊥) → Drilled s bound out₁ out₂ (Refused size 0) out₁ out₂
    unfolding drilling
    drilled_second_size h = refuses (rw (h₁, ne_eqb (length out₂) 85 h))

    module _ (h₂ : length out₂ ≡ 85) {keys keys' : Octets} {a : Answer} (big : length keys ≡ 60000) (was_read : Read s keys a keys') where
      comes : (q : Reading) → reading 60000 s ≡ q → drilling s bound (length out₁) (length out₂) ≡ drilled bound q
      unfolding drilling
      comes q e = rw (h₁, h₂, e)

      told : a ≡ read.answer (reading 60000 s)
      told = was_read.answered ∙ rw big

      pub drilled_refused : {m p : ℕ} → a ≡ answer.Refused m p → Drilled s bound out₁ out₂ (Refused m p) out₁ out₂
      unfolding drilled
      drilled_refused {m} {p} e = refuses (comes (text.refused m p) (answer_refused (reading 60000 s) (sym e ∙ told)))

      module _ {n : ℕ} (e : a ≡ answer.Done n) where
        pub drilled_more : 1 < n → Drilled s bound out₁ out₂ (Refused more_codes 2) out₁ out₂
        unfolding drilled
        drilled_more h =
            let t = answer_done (reading 60000 s) n (sym told ∙ e) in
            refuses (comes (accepted t.those) t.is ∙ rw (t.many, lt-ltb 1 n h))

        front : (k : Octets) → reading 60000 s ≡ accepted (k ∷ []) → take 20 keys' ≡ k
        unfolding written read.keys flatten
        front k q =
            let w : keys' ≡ k ++ drop (length k) keys = was_read.left ∙ rw (e, big, q, append-nil k) in
            rw w (take_at k (drop (length k) keys) 20 (read_sized s k q))

        module _ {r : Outcome} {out₁' out₂' : Octets}
            (c : CarriedOut (tried (take 20 keys') (first_alike (take 20 keys') bound 0)) out₁ out₂ r out₁' out₂') where
          pub drilled_one : n ≤ 1 → Drilled s bound out₁ out₂ r out₁' out₂'
          unfolding drilled
          drilled_one h =
              let t = answer_done (reading 60000 s) n (sym told ∙ e) in
              go t.those t.is (omega (arith, t.many, read_many s t.those t.is))
            where
              go : (ks : List Octets) → reading 60000 s ≡ accepted ks → length ks ≡ 1 → Drilled s bound out₁ out₂ r out₁' out₂'
              go [] q l = absurd (omega arith)
              go (k ∷ j ∷ ks) q l = absurd (omega arith)
              go (k ∷ []) q l = rw (comes (accepted (k ∷ [])) q) (rw (front k q) at c)
