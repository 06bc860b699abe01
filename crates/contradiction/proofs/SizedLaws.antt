-- What the drill's extractor shows are the two keys' records, so each has a record's length.
use mathlib.Core.Path.{◌≡◌, ap, ◌∙◌}
use Prim.Native.Nat.{ℕ}
use native.Mathlib.Omega.{arith}
use lib.ListN.{length}
use Rattle.octets.specs.Order.{Octets}
use Rattle.attester.specs.Walk.{Found}
use Rattle.attester.specs.Extract.{extracted}
use Rattle.contradiction.specs.Trial.{number_key}
use Rattle.contradiction.specs.Drill.{Drilling, number, drilling}
use Rattle.contradiction.proofs.NumberLaws.{key_length}
use Rattle.contradiction.proofs.ReadLaws.{read_sized}
use Rattle.contradiction.proofs.ShownLaws.{one_record_length, pair}
use Rattle.contradiction.proofs.ComesLaws.{Comes, wrong_size, wrong_text, more_than_one, nothing, shown, comes}

module _ (s : Octets) (bound n : ℕ) (f : Found) where
  -- the records are of the sizes that the buffers have
  pub records_sized : drilling s bound 85 85 ≡ number n (extracted f) → (length f.first ≡ 85) × (length f.second ≡ 85)
  records_sized e = go (comes s bound 85 85) e
    where
      go : {d : Drilling} → Comes s bound 85 85 d → d ≡ number n (extracted f) → (length f.first ≡ 85) × (length f.second ≡ 85)
      go (wrong_size h) q = let z : ◌≡◌ {A = ℕ} 0 1 = cc in absurd (omega arith)
      go (wrong_text h) q = let z : ◌≡◌ {A = ℕ} 0 1 = cc in absurd (omega arith)
      go (more_than_one ks h l) q = let z : ◌≡◌ {A = ℕ} 0 1 = cc in absurd (omega arith)
      go (nothing k h o) q = let z : ◌≡◌ {A = ℕ} 0 1 = cc in absurd (omega arith)
      go (shown k m ha hb h o) q =
          let p : f ≡ pair k m = cc in
          (ap (λ (g : Found). length g.first) p ∙ one_record_length k (read_sized s k h), ap (λ (g : Found). length g.second) p ∙ one_record_length (number_key m) (key_length m))
