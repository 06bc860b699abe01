-- An attestation of octets is octets, each below 256: so are the entries and the labels on its path, and its counts are small.
use mathlib.Core.List.{List, [], ◌∷◌, ◌++◌, map, flatten}
use Prim.Native.Nat.{◌<◌}
use native.Mathlib.Omega.{arith}
use lib.ListN.{length}
use Rattle.octets.specs.Order.{Octets, AreOctets}
use Rattle.octets.proofs.OctetLaws.{octets_append}
use Rattle.attester.specs.Record.{Child}
use Rattle.attester.specs.Tree.{Tree, leaf, node, tree}
use Rattle.attester.specs.Label.{label}
use Rattle.attester.specs.Listing.{Each}
use Rattle.attester.specs.Path.{Path, foot_left, foot_right, height, keys, siblings}
use Rattle.attester.specs.Search.{search}
use Rattle.attester.specs.Attestation.{optional_octets, render}
use Rattle.attester.proofs.Sizes.{Throughout}
use Rattle.attester.proofs.ReaderLaws.{All}
use Rattle.attester.proofs.TreeLaws.{inorder_of_tree}
use Rattle.attester.proofs.PathLaws.{throughout_keys, throughout_siblings, throughout_left, throughout_right}
use Rattle.attester.proofs.SearchLaws.{found_throughout}
use Rattle.attester.proofs.AttestationLaws.{issued_found}

abbrev pub OctetChild : Child → Type 0
OctetChild c = AreOctets (optional_octets c)

abbrev pub OctetPath : Path → Type 0
OctetPath = Throughout AreOctets OctetChild

keys_octets : (es : List Octets) → All AreOctets es → AreOctets (flatten es)
unfolding flatten
keys_octets [] h = tt
keys_octets (e ∷ es) h = octets_append e (flatten es) h.0 (keys_octets es h.1)

siblings_octets : (ss : List Child) → All OctetChild ss → AreOctets (flatten (map optional_octets ss))
unfolding flatten
siblings_octets [] h = tt
siblings_octets (s ∷ ss) h = octets_append (optional_octets s) (flatten (map optional_octets ss)) h.0 (siblings_octets ss h.1)

pub render_octets : (p : Path) → height p < 32 → OctetPath p → AreOctets (render p)
unfolding render
render_octets p low h =
    let s₄ = height p ∷ flatten (map optional_octets (siblings p)) in
    let s₃ = optional_octets (foot_right p) ++ s₄ in
    let s₂ = optional_octets (foot_left p) ++ s₃ in
    let h₄ : AreOctets s₄ = (omega arith, siblings_octets (siblings p) (throughout_siblings AreOctets OctetChild p h)) in
    let h₃ = octets_append (optional_octets (foot_right p)) s₄ (throughout_right AreOctets OctetChild p h) h₄ in
    let h₂ = octets_append (optional_octets (foot_left p)) s₃ (throughout_left AreOctets OctetChild p h) h₃ in
    (omega arith, octets_append (flatten (keys p)) s₂ (keys_octets (keys p) (throughout_keys AreOctets OctetChild p h)) h₂)

module _ (H : Octets → Octets) (H_octets : (r : Octets) → AreOctets (H r)) where
  label_octets : (t : Tree) → OctetChild (label H t)
  unfolding label optional_octets
  label_octets leaf = (omega arith, tt)
  label_octets (node l e r) = (omega arith, H_octets _)

  pub issued_octets : (es : List Octets) (x : Octets) → 0 < length es → Each AreOctets es → OctetPath (search H x (tree es))
  issued_octets es x n h = found_throughout H x AreOctets OctetChild label_octets (issued_found H es x n) (rw (inorder_of_tree es) h)
