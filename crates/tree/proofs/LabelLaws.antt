-- How a record is written and a label put together: each subtree's keys are a part of the list's octets, and there is a
-- child exactly where that part has keys.
use mathlib.Core.Path.{◌≡◌, refl, sym, ap, ◌∙◌}
use mathlib.Core.Bool.{Bool, true, false}
use mathlib.Core.List.{[], ◌∷◌, ◌++◌, append_assoc}
use Prim.Native.Nat.{ℕ, zero, suc, ◌+◌, ◌-◌, ◌*◌, ◌/◌, ◌≤◌, ◌<◌}
use native.Mathlib.Omega.{arith}
use lib.Dec.{ltb}
use lib.ListN.{length, take, drop, replicate, length-append, length-take, length-drop}
use lib.Seq.{take_all}
use borrow.Author.Tests.{lt-ltb}
use Rattle.octets.specs.Order.{Octets}
use Rattle.octets.specs.Put.{Wrote}
use Rattle.octets.proofs.PutLaws.{put_end, wrote_more}
use Rattle.attester.specs.Entry.{entries}
use Rattle.attester.specs.Record.{bit, flag, child_octets, node_record}
use Rattle.attester.specs.Tree.{tree}
use Rattle.attester.specs.Label.{label, digest}
use Rattle.attester.proofs.EntryLaws.{entries_front}
use Rattle.attester.proofs.LabelLaws.{label_none, label_bit, digest_none, digest_of_entries}
use Rattle.std.specs.Prelude.{Result}
use Rattle.std.specs.Result.{result_unwrap_or}
use Rattle.answer.specs.declared.Refusal.{Refusal}
use Rattle.profile.specs.declared.Profile.{Profile}
use Rattle.profile.specs.declared.Profile.TheVariants.{Full}
use Rattle.profile.specs.Profile as profiles
use Rattle.profile.specs.Named.{number_of_profile, Names}
use Rattle.profile.proofs.ProfileLaws.{labels_by_number}
use Rattle.tree.specs.Edition.{width}
use Rattle.tree.specs.Labels.{one_if, flag_of, label_of}

pub one_if_most : (b : Bool) → one_if b ≤ 1
one_if_most true = omega arith
one_if_most false = omega arith

-- three writes, one after the other, after the first octet
pub record_written : {d d₁ d₂ d₃ l k r : Octets} {f p q e : ℕ} → take 1 d ≡ f ∷ [] → 1 + length l + length k + length r ≡ length d
    → Wrote d 1 l d₁ p → Wrote d₁ p k d₂ q → Wrote d₂ q r d₃ e → d₃ ≡ f ∷ (l ++ (k ++ r))
record_written {d} {d₁} {d₂} {d₃} {l} {k} {r} {f} {p} {q} {e} first fits w₁ w₂ w₃ =
    let w = wrote_more (wrote_more w₁ w₂ (omega arith)) w₃ (rw (length-append l k) (omega arith)) in
    w.left ∙ put_end d 1 (l ++ k ++ r) (rw (length-append (l ++ k) r, length-append l k) (omega arith)) ∙ rw (first, append_assoc l k r)

module _ (H : Octets → Octets) where
  pub label_of_none : (keys : Octets) → length keys / 20 ≡ 0 → replicate {A = ℕ} 32 0 ≡ label_of H width keys
  unfolding label_of entries
  label_of_none keys e = rw (e, digest_none H)

  -- there is a child where there are entries
  bit_of_entries : (m : ℕ) (s : Octets) → bit (label H (tree (entries width m s))) ≡ one_if (ltb 0 m)
  unfolding entries
  bit_of_entries zero s = rw (label_none H)
  bit_of_entries (suc m) s = label_bit H (entries width (suc m) s) (omega arith) ∙ rw (lt-ltb 0 (suc m) (omega arith))

  -- the keys before the root, and those after it
  label_before : (keys : Octets) (m at : ℕ) → at ≡ 20 * m → at ≤ length keys
      → label_of H width (take at keys) ≡ child_octets (label H (tree (entries width m keys)))
  unfolding label_of digest
  label_before keys m at e h =
      let n : length (take at keys) / 20 ≡ m = rw length-take (omega arith) in
      rw (n, entries_front width m at keys (omega arith))

  label_after : (keys : Octets) (m at : ℕ) → length (drop at keys) / 20 ≡ m
      → label_of H width (take (length keys - at) (drop at keys)) ≡ child_octets (label H (tree (entries width m (drop at keys))))
  unfolding label_of digest
  label_after keys m at e = rw (take_all (length keys - at) (drop at keys) (rw length-drop (omega arith)), e)

  pub label_of_node : (keys : Octets) {l r rec h : Octets} {f : ℕ}
      → 0 < length keys / 20
      → l ≡ label_of H width (take (20 * (length keys / 20 / 2)) keys)
      → r ≡ label_of H width (take (length keys - (20 * (length keys / 20 / 2) + 20)) (drop (20 * (length keys / 20 / 2) + 20) keys))
      → f ≡ flag_of (ltb 0 (length keys / 20 / 2)) (ltb 0 (length keys / 20 - length keys / 20 / 2 - 1))
      → rec ≡ f ∷ (l ++ (take (20 * (length keys / 20 / 2) + 20 - 20 * (length keys / 20 / 2)) (drop (20 * (length keys / 20 / 2)) keys) ++ r))
      → h ≡ H rec
      → h ≡ label_of H width keys
  unfolding label_of node_record flag
  label_of_node keys {l} {r} {rec} {h} {f} some el er ef erec eh =
      let n : ℕ = length keys / 20 in
      let at : ℕ = 20 * (n / 2) in
      let key_width : at + 20 - at ≡ 20 = omega arith in
      let start : n / 2 * 20 ≡ at = omega arith in
      let next : suc (n / 2) * 20 ≡ at + 20 = omega arith in
      let after : n - n / 2 - 1 ≡ n - suc (n / 2) = omega arith in
      let a = label_before keys (n / 2) at refl (omega arith) in
      let b = label_after keys (n - suc (n / 2)) (at + 20) (rw length-drop (omega arith)) in
      let c = bit_of_entries (n / 2) keys in
      let d = bit_of_entries (n - suc (n / 2)) (drop (at + 20) keys) in
      eh ∙ rw (erec, ef, el, er, a, b, key_width, after, ← c, ← d)
      (sym (digest_of_entries H width n keys some ∙ rw (start, next)))

-- the label by a profile's number, whether there is one of that number or not
pub label_by_number : (n : ℕ) (keys : Octets) (r : Result Profile Refusal) → Names n r
    → label_of (profiles.label (number_of_profile (result_unwrap_or r Full))) width keys ≡ label_of (profiles.label n) width keys
label_by_number n keys r e = ap (λ (H : Octets → Octets). label_of H width keys) (labels_by_number n r e)
