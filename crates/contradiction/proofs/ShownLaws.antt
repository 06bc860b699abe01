-- What is shown of the listed key k and a number that is alike: by demand 2 the first attestation is accepted as Absent and the second,
-- under the same digest, as Present; both show a foot and nothing above it, so the walk stops at once, at the two keys' records.
use mathlib.Core.Path.{◌≡◌, refl, sym, ap, ◌∙◌}
use mathlib.Core.Bool.{Bool, true, false, cond, or-false}
use mathlib.Core.List.{[], ◌∷◌}
use mathlib.Core.Option.{none, some}
use Prim.Native.Nat.{ℕ, ◌^◌, ◌<◌}
use native.Mathlib.Omega.{arith}
use lib.ListN.{length, take, replicate}
use lib.Seq.{take_at, take_all, length-take-le}
use Rattle.octets.specs.Order.{Octets, same}
use Rattle.octets.proofs.OrderLaws.{same_true, same_refl}
use Rattle.sha256.specs.Fips180.{sha256}
use Rattle.sha256.proofs.Fips180Laws.{sha256_length}
use Rattle.profile.specs.Profile.{drill, label, short}
use Rattle.profile.proofs.ProfileLaws.{label_length, label_drill}
use Rattle.attester.specs.Entry.{key}
use Rattle.attester.specs.Record.{node_record}
use Rattle.attester.specs.Label.{digest}
use Rattle.attester.specs.Path.{foot}
use Rattle.attester.specs.Form.{shown}
use Rattle.attester.specs.Verdict.{present, absent, root_record}
use Rattle.attester.specs.Verify.{verify}
use Rattle.attester.specs.Search.{listed}
use Rattle.attester.specs.Attestation.{attestation}
use Rattle.attester.specs.Walk.{Found, walk}
use Rattle.attester.specs.Extract.{extracted, sized}
use Rattle.attester.proofs.RecordLaws.{record_length, record_injective}
use Rattle.attester.proofs.LabelLaws.{digest_length}
use Rattle.attester.proofs.AttestationLaws.{form_of_attestation}
use Rattle.attester.proofs.Demand2.{demand_2}
use Rattle.attester.proofs.ExtractLaws.{extract_found}
use Rattle.tree.specs.Edition.{width, most}
use Rattle.contradiction.specs.Trial.{number_key, alike}
use Rattle.contradiction.specs.Drill.{handed}
use Rattle.contradiction.proofs.NumberLaws.{key_length}
use Rattle.contradiction.proofs.OneNodeLaws.{one_digest, one_search, one_listing}

-- octets that are not the same are told apart
unlike : (a b : Octets) → (a ≡ b → ⊥) → same a b ≡ false
unlike a b differ = go (same a b) refl
  where
    go : (o : Bool) → same a b ≡ o → o ≡ false
    go true e = absurd (differ (same_true a b e))
    go false e = refl

-- the record of the one node
abbrev pub one_record : Octets → Octets
one_record k = node_record none k none

pub one_record_length : (k : Octets) → length k ≡ 20 → length (one_record k) ≡ 85
one_record_length k h = record_length 20 none k none tt h tt

-- what the extractor shows of the listed key k and the number n
abbrev pub pair : Octets → ℕ → Found
pair k n = record { passed = 0; first = one_record k; second = one_record (number_key n) }

-- where the labels agree, so do their first 2 octets
short_agree : (a b : Octets) → length a ≡ 32 → length b ≡ 32 → short a ≡ short b → take 2 a ≡ take 2 b
short_agree a b h g e =
    sym (take_at (take 2 a) (replicate 30 0) 2 (length-take-le 2 a (omega arith)))
    ∙ ap (take 2) e
    ∙ take_at (take 2 b) (replicate 30 0) 2 (length-take-le 2 b (omega arith))

module _ (k : Octets) (sized_key : length k ≡ 20) (n : ℕ) where
  abbrev x : Octets
  x = number_key n

  abbrev d : Octets
  d = digest (label drill) (k ∷ [])

  abbrev a : Octets
  a = attestation (label drill) (k ∷ []) x

  abbrev b : Octets
  b = attestation (label drill) (x ∷ []) x

  few : 3000 < 2 ^ 32
  few = omega arith

  pub shows_foot : (j : Octets) → length j ≡ 20 → shown width (attestation (label drill) (j ∷ []) x) ≡ foot j none none
  unfolding shown
  shows_foot j h =
      rw (form_of_attestation (label drill) (label_length drill) width most (j ∷ []) x (one_listing j h) few) (one_search (label drill) j x)

  verdict : (j : Octets) → length j ≡ 20
      → verify (label drill) width x (digest (label drill) (j ∷ [])) (attestation (label drill) (j ∷ []) x) ≡ cond (same x j) present absent
  unfolding listed key
  verdict j h =
      rw (take_all 20 j (omega arith), or-false) at
      (demand_2 (label drill) width most (label_length drill) few (j ∷ []) x (one_listing j h) (key_length n))

  module _ (other : number_key n ≡ k → ⊥) (is_alike : alike k n ≡ true) where
    same_digest : digest (label drill) (x ∷ []) ≡ d
    unfolding alike
    same_digest = same_true (digest (label drill) (x ∷ [])) d is_alike

    pub judged_absent : verify (label drill) width x d a ≡ absent
    judged_absent = rw (verdict k sized_key, unlike x k other)

    pub judged_present : verify (label drill) width x d b ≡ present
    judged_present = rw (← same_digest, verdict x (key_length n), same_refl x)

    pub differ : one_record k ≡ one_record x → ⊥
    differ e = other (sym (record_injective none k none none x none tt tt (sized_key ∙ sym (key_length n)) e).entry)

    pub two_agree : take 2 (sha256 (one_record k)) ≡ take 2 (sha256 (one_record x))
    two_agree =
        short_agree (sha256 (one_record k)) (sha256 (one_record x)) (sha256_length (one_record k)) (sha256_length (one_record x))
        (sym (label_drill (one_record k)) ∙ sym (one_digest (label drill) k) ∙ sym same_digest ∙ one_digest (label drill) x ∙ label_drill (one_record x))

    sizes : sized width (length x) (length d) 85 85 ≡ true
    unfolding sized
    sizes = rw (key_length n, digest_length (label drill) (label_length drill) (k ∷ []))

    contradict : verify (label drill) width x d a ≡ verify (label drill) width x d b → ⊥
    contradict e =
        let e' : absent ≡ present = sym judged_absent ∙ e ∙ judged_present in
        let z : ◌≡◌ {A = ℕ} 0 1 = cc in
        omega arith

    walked : walk (label drill) x (shown width a) (shown width b) ≡ some (pair k n)
    unfolding walk root_record
    walked = rw (shows_foot k sized_key, shows_foot x (key_length n), unlike (one_record k) (one_record x) differ)

    pub handed_shows : handed k x ≡ extracted (pair k n)
    unfolding handed
    handed_shows =
        extract_found (label drill) width x d a b 85 85 sizes (rw judged_absent tt) (rw judged_present tt) contradict (pair k n) walked
