-- Labels by the places of the entries in a list's octets, and their lengths where the label function gives 32 octets.
use mathlib.Core.Path.{◌≡◌}
use mathlib.Core.List.{List, []}
use mathlib.Core.Option.{none}
use Prim.Native.Nat.{ℕ, suc, ◌-◌, ◌*◌, ◌/◌, ◌<◌}
use lib.ListN.{length, take, drop, replicate}
use Rattle.octets.specs.Order.{Octets}
use Rattle.attester.specs.Entry.{entries}
use Rattle.attester.specs.Record.{bit, child_octets, node_record}
use Rattle.attester.specs.Tree.{Tree, leaf, node, tree}
use Rattle.attester.specs.Label.{label, digest}
use Rattle.attester.proofs.Sizes.{Labelled}
use Rattle.attester.proofs.RecordLaws.{child_octets_length}
use Rattle.attester.proofs.TreeLaws.{tree_none, tree_node, tree_of_entries}

module _ (H : Octets → Octets) where
  pub label_none : label H (tree []) ≡ none
  unfolding label
  label_none = rw tree_none

  -- a list with entries has a labelled tree
  pub label_bit : (es : List Octets) → 0 < length es → bit (label H (tree es)) ≡ 1
  unfolding label
  label_bit es h = rw (tree_node es h)

  pub digest_none : digest H [] ≡ replicate {A = ℕ} 32 0
  unfolding digest child_octets
  digest_none = rw label_none

  pub digest_of_entries : (w n : ℕ) (s : Octets) → 0 < n
      → digest H (entries w n s)
      ≡ H (node_record
      (label H (tree (entries w (n / 2) s)))
      (take w (drop (n / 2 * w) s))
      (label H (tree (entries w (n - suc (n / 2)) (drop (suc (n / 2) * w) s)))))
  unfolding digest label child_octets
  digest_of_entries w n s h = rw (tree_of_entries w n s h)

module _ (H : Octets → Octets) (H_length : (m : Octets) → length (H m) ≡ 32) where
  pub label_labelled : (t : Tree) → Labelled (label H t)
  unfolding label
  label_labelled leaf = tt
  label_labelled (node l e r) = H_length _

  pub digest_length : (es : List Octets) → length (digest H es) ≡ 32
  unfolding digest
  digest_length es = child_octets_length (label H (tree es)) (label_labelled (tree es))
