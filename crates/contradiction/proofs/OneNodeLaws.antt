-- The tree of one key: its digest is the label of a record without children; every search in it ends at its one node, so that each
-- key's attestation is the same 24 octets; and a list of one key is accepted.
use mathlib.Core.Path.{◌≡◌, refl}
use mathlib.Core.List.{[], ◌∷◌, append-nil, flatten}
use mathlib.Core.Option.{none}
use Prim.Native.Nat.{Ordering}
use native.Mathlib.Omega.{arith}
use lib.ListN.{length, length-append}
use lib.Seq.{take_all}
use Rattle.octets.specs.Order.{Octets}
use Rattle.attester.specs.Entry.{entries}
use Rattle.attester.specs.Record.{child_octets, node_record}
use Rattle.attester.specs.Tree.{leaf, node, tree_within, tree}
use Rattle.attester.specs.Label.{label, digest}
use Rattle.attester.specs.Listing.{Listing}
use Rattle.attester.specs.Path.{Path, foot, height, keys, siblings, foot_left, foot_right}
use Rattle.attester.specs.Verdict.{side}
use Rattle.attester.specs.Admission.{admitted, admit}
use Rattle.attester.specs.Search.{turn, search}
use Rattle.attester.specs.Attestation.{optional_octets, render, attestation}
use Rattle.attester.proofs.AdmissionLaws.{listing_admitted}
use Rattle.tree.specs.Edition.{width, most}
use Rattle.tree.specs.Labels.{label_of}

one_tree : (k : Octets) → tree (k ∷ []) ≡ node leaf k leaf
unfolding tree tree_within
one_tree k = refl

-- whichever way the search turns
turned : (o : Ordering) (p : Path) → turn o p p p ≡ p
turned Ordering.lt p = refl
turned Ordering.eq p = refl
turned Ordering.gt p = refl

module _ (H : Octets → Octets) where
  pub one_digest : (k : Octets) → digest H (k ∷ []) ≡ H (node_record none k none)
  unfolding digest label child_octets
  one_digest k = rw (one_tree k)

  pub one_search : (k x : Octets) → search H x (tree (k ∷ [])) ≡ foot k none none
  unfolding search label
  one_search k x = rw (one_tree k) (turned (side x k) (foot k none none))

  pub one_attestation_length : (k x : Octets) → length k ≡ 20 → length (attestation H (k ∷ []) x) ≡ 24
  unfolding attestation render keys height siblings foot_left foot_right optional_octets flatten
  one_attestation_length k x h =
      rw (one_search k x, append-nil k, length-append k (0 ∷ 0 ∷ 0 ∷ []), h)

  -- the label of a list's octets, where they are one key
  pub label_of_one : (k : Octets) → length k ≡ 20 → label_of H width k ≡ digest H (k ∷ [])
  unfolding label_of entries
  label_of_one k h = rw (h, take_all 20 k (omega arith))

pub one_listing : (k : Octets) → length k ≡ 20 → Listing width most (k ∷ [])
one_listing k h = record { some_entry = omega arith; few = omega arith; sized = (h, tt); ascending = (tt, tt) }

pub one_admitted : (k : Octets) → length k ≡ 20 → admit width most k ≡ admitted (k ∷ [])
unfolding flatten
one_admitted k h = rw append-nil at (listing_admitted width most (k ∷ []) (omega arith) (one_listing k h))
