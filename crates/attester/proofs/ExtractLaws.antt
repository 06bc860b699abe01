-- What `extract` answers, case by case, in the order of 01.
use mathlib.Core.Path.{◌≡◌, refl}
use mathlib.Core.Bool.{true, false}
use mathlib.Core.Option.{Option, some}
use Prim.Native.Nat.{ℕ}
use lib.ListN.{length}
use Rattle.answer.specs.Refusals.{size, no_contradiction}
use Rattle.octets.specs.Order.{Octets}
use Rattle.attester.specs.Verdict.{Judgement, present, absent, Accepted}
use Rattle.attester.specs.Verdict as verdict
use Rattle.attester.specs.Form.{shown}
use Rattle.attester.specs.Verify.{verify}
use Rattle.attester.specs.Walk.{Found, walk}
use Rattle.attester.specs.Extract.{extracted, refused, contradiction, sized, extract}

-- Two verdicts

contradiction_second : (u : Judgement) (k p : ℕ) (f : Option Found) → Accepted u → contradiction u (verdict.refused k p) f ≡ refused k 2
unfolding contradiction
contradiction_second present k p f h = refl
contradiction_second absent k p f h = refl
contradiction_second (verdict.refused i j) k p f h = absurd h

contradiction_same : (u : Judgement) (f : Option Found) → Accepted u → contradiction u u f ≡ refused no_contradiction 0
unfolding contradiction
contradiction_same present f h = refl
contradiction_same absent f h = refl
contradiction_same (verdict.refused i j) f h = absurd h

contradiction_found : (u v : Judgement) (f : Found) → Accepted u → Accepted v → (u ≡ v → ⊥) → contradiction u v (some f) ≡ extracted f
unfolding contradiction
contradiction_found present present f g h differ = absurd (differ refl)
contradiction_found present absent f g h differ = refl
contradiction_found absent present f g h differ = refl
contradiction_found absent absent f g h differ = absurd (differ refl)
contradiction_found (verdict.refused i j) v f g h differ = absurd g
contradiction_found present (verdict.refused i j) f g h differ = absurd h
contradiction_found absent (verdict.refused i j) f g h differ = absurd h

-- The extractor

module _ (H : Octets → Octets) (w : ℕ) (x d a b : Octets) (n m : ℕ) where
  pub extract_unsized : sized w (length x) (length d) n m ≡ false → extract H w x d a b n m ≡ refused size 0
  unfolding extract
  extract_unsized h = rw h

  module _ (sizes : sized w (length x) (length d) n m ≡ true) where
    extract_sized : extract H w x d a b n m ≡ contradiction (verify H w x d a) (verify H w x d b) (walk H x (shown w a) (shown w b))
    unfolding extract
    extract_sized = rw sizes

    pub extract_first : (k p : ℕ) → verify H w x d a ≡ verdict.refused k p → extract H w x d a b n m ≡ refused k 1
    unfolding contradiction
    extract_first k p h = rw (extract_sized, h)

    module _ (first : Accepted (verify H w x d a)) where
      pub extract_second : (k p : ℕ) → verify H w x d b ≡ verdict.refused k p → extract H w x d a b n m ≡ refused k 2
      extract_second k p h =
          rw (extract_sized, h) (contradiction_second (verify H w x d a) k p (walk H x (shown w a) (shown w b)) first)

      pub extract_same : verify H w x d a ≡ verify H w x d b → extract H w x d a b n m ≡ refused no_contradiction 0
      extract_same h =
          rw (extract_sized, ← h) (contradiction_same (verify H w x d a) (walk H x (shown w a) (shown w b)) first)

      pub extract_found : Accepted (verify H w x d b) → (verify H w x d a ≡ verify H w x d b → ⊥)
          → (f : Found) → walk H x (shown w a) (shown w b) ≡ some f → extract H w x d a b n m ≡ extracted f
      extract_found second differ f h =
          rw (extract_sized, h) (contradiction_found (verify H w x d a) (verify H w x d b) f first second differ)
