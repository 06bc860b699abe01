-- The loop over the keys: of the keys from index i on, and the one before them, the first misplaced is the whole list's.
use mathlib.Core.Path.{◌≡◌, refl, ◌∙◌}
use mathlib.Core.Bool.{Bool, true, false}
use mathlib.Core.List.{[]}
use Prim.Native.Nat.{ℕ, suc, ◌+◌, ◌-◌, ◌*◌, ◌≤◌, ◌<◌}
use native.Mathlib.Nat.{le_refl}
use native.Mathlib.Omega.{arith}
use lib.ListN.{length, take, drop, get_or}
use lib.Seq.{take-take}
use Rattle.answer.specs.Answer.{Done, Refused}
use Rattle.answer.specs.Refusals.{not_ascending}
use Rattle.octets.specs.Order.{Octets, order, is_less}
use Rattle.attester.specs.Entry.{key, entries}
use Rattle.attester.specs.Admission.{misplaced_after, misplaced, sound}
use Rattle.attester.proofs.EntryLaws.{entries_length, entries_at}
use Rattle.attester.proofs.AdmissionLaws.{misplaced_start, misplaced_end, misplaced_turn, misplaced_stop}
use Rattle.tree.specs.Admitted.{answer_of}
use Rattle.tree.specs.Edition.{width}

-- the keys up to index i ascend: what is misplaced stands from there on
abbrev pub Rising : Octets → ℕ → ℕ → Type 0
Rising keys n i =
    misplaced (entries width n keys) ≡ misplaced_after (get_or (entries width n keys) (i - 1) []) i (drop i (entries width n keys))

pub rising_start : (keys : Octets) (n : ℕ) → 0 < n → Rising keys n 1
rising_start keys n h = misplaced_start (entries width n keys) (rw (entries_length width n keys) h)

pub rising_end : (keys : Octets) (n i : ℕ) → Rising keys n i → n ≤ i
    → Done n ≡ answer_of (sound (misplaced (entries width n keys)) (entries width n keys))
unfolding sound
rising_end keys n i e h =
    let l : length (entries width n keys) ≡ n = entries_length width n keys in
    rw (e, misplaced_end (entries width n keys) (get_or (entries width n keys) (i - 1) []) i (rw l h), l)

-- the key of the entry at index j
key_at : (keys : Octets) (n j at : ℕ) → j < n → at ≡ 20 * j → key (get_or (entries width n keys) j []) ≡ take 20 (drop at keys)
unfolding key
key_at keys n j at h e =
    let s : j * 20 ≡ at = omega arith in
    rw (entries_at 20 j n keys h, s) (take-take 20 20 (drop at keys) (le_refl 20))

module _ (keys : Octets) (n i : ℕ) (e : Rising keys n i) (p : 1 ≤ i) (q : i < n) (b : Bool)
    (told : b ≡ is_less (order (take (20 * i - (20 * i - 20)) (drop (20 * i - 20) keys)) (take (20 * i + 20 - 20 * i) (drop (20 * i) keys)))) where
  -- what the code compares are the keys at i - 1 and i
  compared : is_less (order (key (get_or (entries width n keys) (i - 1) [])) (key (get_or (entries width n keys) i []))) ≡ b
  compared =
      let k : 20 * i - (20 * i - 20) ≡ 20 = omega arith in
      let l : 20 * i + 20 - 20 * i ≡ 20 = omega arith in
      rw (key_at keys n (i - 1) (20 * i - 20) (omega arith) (omega arith), key_at keys n i (20 * i) q refl, told, k, l)

  inside : i < length (entries width n keys)
  inside = rw (entries_length width n keys) q

  pub rising_turn : b ≡ true → Rising keys n (i + 1)
  rising_turn t =
      let s : i + 1 ≡ suc i = omega arith in
      let r : suc i - 1 ≡ i = omega arith in
      rw (s, r) (e ∙ misplaced_turn (entries width n keys) (get_or (entries width n keys) (i - 1) []) i inside (compared ∙ t))

  pub rising_stop : b ≡ false → Refused not_ascending i ≡ answer_of (sound (misplaced (entries width n keys)) (entries width n keys))
  unfolding sound
  rising_stop t =
      rw (e, misplaced_stop (entries width n keys) (get_or (entries width n keys) (i - 1) []) i inside (compared ∙ t))
