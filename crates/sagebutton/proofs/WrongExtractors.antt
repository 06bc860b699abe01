-- The wrong extractors by demand 3: what is left of a contradiction are two different records, so one that refuses or leaves its buffers
-- is wrong; and the drill has two contradictions that ask for different pairs.
use mathlib.Core.Path.{◌≡◌, refl, sym, ap, ◌∙◌}
use mathlib.Core.Bool.{true}
use mathlib.Core.List.{[], ◌∷◌}
use mathlib.Core.Logic.{◌⊎◌, inl, inr}
use mathlib.Core.Option.{none}
use Prim.Native.Nat.{ℕ, zero, suc}
use native.Mathlib.Omega.{arith}
use borrow.Author.Tests.{eq-eqb}
use lib.ListN.{length, get_or, replicate}
use Rattle.answer.specs.Answer.{Answer, Refused}
use Rattle.octets.specs.Order.{Octets}
use Rattle.sha256.specs.Fips180.{octets}
use Rattle.profile.specs.Profile.{drill, label}
use Rattle.attester.specs.Record.{Child, child_octets, node_record, Labels}
use Rattle.attester.specs.Label.{digest}
use Rattle.attester.specs.Path.{foot, down}
use Rattle.attester.specs.Verdict.{Accepted, root_record}
use Rattle.attester.specs.Verify.{verify}
use Rattle.attester.specs.Attestation.{attestation}
use Rattle.attester.specs.Extract.{extracted, refused, sized}
use Rattle.attester.proofs.VerifyLaws.{verify_accepted}
use Rattle.attester.proofs.Demand3.{demand_3, verdicts_tell_paths}
use Rattle.attester.proofs.ExtractLaws.{extract_found}
use Rattle.codes.specs.Code.{key_of}
use Rattle.tree.specs.Edition.{width}
use Rattle.extractor.specs.Extract.{Extracted}
use Rattle.examples.specs.F.{code_1_1, code_3_4}
use Rattle.examples.specs.Values.{lone_record, number}
use Rattle.contradiction.proofs.NumberLaws.{key_length}
use Rattle.contradiction.proofs.ShownLaws.{shows_foot}
use Rattle.sagebutton.specs.Demand3.{Contradict, ContradictsInDrill}
use Rattle.sagebutton.specs.WrongPrograms.{Contradictory, ExtractsNothing, RefusesTwo, LeavesBuffers, ShowsOnePair}
use Rattle.sagebutton.proofs.Demand3 as demand3
use Rattle.sagebutton.proofs.DrillContradicts.{drill_contradicts}

-- two buffers of 85 octets
zeros : Octets
zeros = replicate 85 0

zeros_sized : length zeros ≡ 85
unfolding zeros
zeros_sized = refl

-- Over any label function

module _ (H : Octets → Octets) (H_length : Labels H) (x d a b : Octets) where
  -- what the walk finds is extracted
  found : Accepted (verify H width x d a) → Accepted (verify H width x d b) → (verify H width x d a ≡ verify H width x d b → ⊥)
      → ExtractsNothing H x d a b → ⊥
  unfolding sized
  found f s apart h =
      let w = demand_3 H width H_length x d a b f s (verdicts_tell_paths H width x d a b f s apart) in
      let v = verify_accepted H width x d a f in
      let sizes : sized width (length x) (length d) 85 85 ≡ true = rw (eq-eqb (length x) 20 v.key_size, eq-eqb (length d) 32 v.digest_size) in
      let e : refused h.0 h.1 ≡ extracted w.found = sym h.2 ∙ extract_found H width x d a b 85 85 sizes f s apart w.found w.is in
      let z : ◌≡◌ {A = ℕ} 0 1 = cc in
      omega arith

  pub extracts_nothing : Contradictory H x d a b → ExtractsNothing H x d a b → ⊥
  extracts_nothing (inl c) = found (rw c.0 tt) (rw c.1 tt) (λ e. let z : ◌≡◌ {A = ℕ} 0 1 = cc (c.0, c.1) in omega arith)
  extracts_nothing (inr c) = found (rw c.0 tt) (rw c.1 tt) (λ e. let z : ◌≡◌ {A = ℕ} 0 1 = cc (c.0, c.1) in omega arith)

-- Of the promise

pub refuses_two : (profile : ℕ) (x d a b : Octets) → Contradict profile x d a b → RefusesTwo profile x d a b → ⊥
refuses_two profile x d a b c h =
    let r = h zeros zeros zeros_sized zeros_sized in
    let e = (demand3.demand_3 profile x d a b c zeros zeros zeros_sized zeros_sized (Refused r.0 r.1) r.2 r.3 r.4).answers in
    let z : ◌≡◌ {A = ℕ} 0 1 = cc in
    omega arith

pub leaves_buffers : (profile : ℕ) (x d a b : Octets) → Contradict profile x d a b → LeavesBuffers profile x d a b → ⊥
leaves_buffers profile x d a b c h =
    let r = h zeros zeros zeros_sized zeros_sized in
    (demand3.demand_3 profile x d a b c zeros zeros zeros_sized zeros_sized r.0 zeros zeros r.1).differ refl

pub does_nothing : ((x d a b : Octets) → Contradict drill x d a b → RefusesTwo drill x d a b ⊎ LeavesBuffers drill x d a b) → ⊥
does_nothing h =
    let c = drill_contradicts.of_3_4 in
    elim (h _ _ _ _ c) [
      | inl r ↦ refuses_two drill _ _ _ _ c r
      | inr l ↦ leaves_buffers drill _ _ _ _ c l
    ]

-- a foot is the path on every level
down_foot : (i : ℕ) (e : Octets) (l r : Child) → down i (foot e l r) ≡ foot e l r
unfolding down
down_foot zero e l r = refl
down_foot (suc i) e l r = refl

-- what must be shown of a contradiction of the drill: the two records of its keys
module _ (k : Octets) (sized_key : length k ≡ 20) (n : ℕ) (c : ContradictsInDrill k n) where
  abbrev x : Octets
  x = number n

  abbrev d : Octets
  d = digest (label drill) (k ∷ [])

  abbrev a : Octets
  a = attestation (label drill) (k ∷ []) x

  abbrev b : Octets
  b = attestation (label drill) (x ∷ []) x

  must_show : (t : Answer) (r s : Octets) → Extracted drill x d a b zeros zeros t r s → (r ≡ lone_record k) × (s ≡ lone_record x)
  unfolding root_record
  must_show t r s e =
      let m = demand3.demand_3 drill x d a b c zeros zeros zeros_sized zeros_sized t r s e in (
        m.first_rebuilt.is ∙ rw (shows_foot k sized_key n k sized_key, down_foot m.passed k none none),
        m.second_rebuilt.is ∙ rw (shows_foot k sized_key n x (key_length n), down_foot m.passed x none none),
      )

-- r and s are those two, in some order
abbrev InSomeOrder : Octets → ℕ → Octets → Octets → Type 0
InSomeOrder k n r s = ((r ≡ lone_record k) × (s ≡ lone_record (number n))) ⊎ ((s ≡ lone_record k) × (r ≡ lone_record (number n)))

stored_pair : (k : Octets) → length k ≡ 20 → (n : ℕ) → ContradictsInDrill k n → (r s : Octets) → ShowsOnePair drill r s → InSomeOrder k n r s
stored_pair k z n c r s h =
    let shown = h (x k z n c) (d k z n c) (a k z n c) (b k z n c) c zeros zeros zeros_sized zeros_sized in
    elim shown.1 [
      | inl e ↦ inl (must_show k z n c shown.0 r s e)
      | inr e ↦ inr (must_show k z n c shown.0 s r e)
    ]

-- octet 33 of a record is its key's first
first_of : Octets → ℕ
first_of r = get_or r 33 0

-- no pair is that of two contradictions whose codes begin differently
two_pairs : (k l : Octets) (n m : ℕ) {r s : Octets}
    → (first_of (lone_record k) ≡ first_of (lone_record l) → ⊥) → (first_of (lone_record k) ≡ first_of (lone_record (number m)) → ⊥)
    → (first_of (lone_record (number n)) ≡ first_of (lone_record l) → ⊥) → InSomeOrder k n r s → InSomeOrder l m r s → ⊥
two_pairs k l n m codes left right (inl p) (inl q) = codes (ap first_of (sym p.0 ∙ q.0))
two_pairs k l n m codes left right (inl p) (inr q) = left (ap first_of (sym p.0 ∙ q.1))
two_pairs k l n m codes left right (inr p) (inl q) = right (ap first_of (sym p.1 ∙ q.0))
two_pairs k l n m codes left right (inr p) (inr q) = codes (ap first_of (sym p.0 ∙ q.0))

pub shows_one_pair : (r s : Octets) → ShowsOnePair drill r s → ⊥
unfolding first_of node_record child_octets key_of octets
shows_one_pair r s h =
    two_pairs (key_of code_3_4) (key_of code_1_1) 16401 78159 (λ e. omega (arith, e)) (λ e. omega (arith, e)) (λ e. omega (arith, e))
    (stored_pair (key_of code_3_4) refl 16401 drill_contradicts.of_3_4 r s h)
    (stored_pair (key_of code_1_1) refl 78159 drill_contradicts.of_1_1 r s h)
