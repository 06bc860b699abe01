-- What is issued for a key in an accepted list: its path is found in the list's tree, is sized and low enough for the form;
-- and every key gets the attestation of its foot's key.
use mathlib.Core.Path.{◌≡◌, sym, ap, ◌∙◌}
use mathlib.Core.Bool.{true}
use mathlib.Core.List.{List, [], ◌∷◌}
use Prim.Native.Nat.{Ordering}
use Prim.Native.Nat.{ℕ, suc, ◌^◌, ◌≤◌, ◌<◌}
use native.Mathlib.Omega.{arith}
use lib.ListN.{length}
use Rattle.octets.specs.Order.{Octets, same}
use Rattle.octets.proofs.OrderLaws.{order_flip, order_refl, same_true}
use Rattle.attester.specs.Entry.{key}
use Rattle.attester.specs.Record.{child_octets}
use Rattle.attester.specs.Tree.{Tree, tree}
use Rattle.attester.specs.Label.{label, digest}
use Rattle.attester.specs.Depth.{bit_length}
use Rattle.attester.specs.Listing.{Below, Each, Ascending, Listing}
use Rattle.attester.specs.Path.{Path, foot_entry, height}
use Rattle.attester.specs.Verdict.{side, root_record}
use Rattle.attester.specs.Form.{formed, form}
use Rattle.attester.specs.Search.{search, listed}
use Rattle.attester.specs.Attestation.{render, attestation}
use Rattle.attester.proofs.Sizes.{Sized}
use Rattle.attester.proofs.TreeLaws.{inorder, inorder_of_tree}
use Rattle.attester.proofs.DepthLaws.{depth_of_tree, depth_most}
use Rattle.attester.proofs.ListingLaws.{each_left, each_right, ascending_parted}
use Rattle.attester.proofs.FormLaws.{form_of_render}
use Rattle.attester.proofs.SearchStepLaws.{tree_grown}
use Rattle.attester.proofs.SearchLaws.{Found, hit, end_left, end_right, go_left, go_right, search_found, found_search, found_label, found_low, found_listed, found_sized}

-- The foot's key has the same path

pub found_foot : (H : Octets → Octets) (x : Octets) {t : Tree} {p : Path} (P : Octets → Type 0) → Found H x t p → Each P (inorder t) → P (foot_entry p)
unfolding foot_entry inorder
found_foot H x P (hit {l} {r} {e} s) h = (each_right P (inorder l) (e ∷ inorder r) h).0
found_foot H x P (end_left s) h = h.0
found_foot H x P (end_right {l} {e} s) h = (each_right P (inorder l) (e ∷ []) h).0
found_foot H x P (go_left {l} {r} {e} s f) h = found_foot H x P f (each_left P (inorder l) (e ∷ inorder r) h)
found_foot H x P (go_right {l} {r} {e} s f) h = found_foot H x P f (each_right P (inorder l) (e ∷ inorder r) h).1

side_above : (e f : Octets) → Below e f → side (key f) e ≡ Ordering.gt
unfolding side
side_above e f b = rw (order_flip (key e) (key f), b)

pub found_again : (H : Octets → Octets) (x : Octets) {t : Tree} {p : Path} → Found H x t p → Ascending (inorder t)
    → Found H (key (foot_entry p)) t p
unfolding foot_entry inorder side label
found_again H x (hit {l} {r} {e} s) h = hit (order_refl (key e))
found_again H x (end_left {r} {e} s) h = hit (order_refl (key e))
found_again H x (end_right {l} {e} s) h = hit (order_refl (key e))
found_again H x (go_left {l} {r} {e} s f) h =
    let q = ascending_parted (inorder l) e (inorder r) h in
    go_left (found_foot H x (λ b. Below b e) f q.all_below) (found_again H x f q.left)
found_again H x (go_right {l} {r} {e} {p} s f) h =
    let q = ascending_parted (inorder l) e (inorder r) h in
    go_right (side_above e (foot_entry p) (found_foot H x (Below e) f q.all_above)) (found_again H x f q.right)

-- In an accepted list

module _ (H : Octets → Octets) (es : List Octets) (x : Octets) where
  pub issued_found : 0 < length es → Found H x (tree es) (search H x (tree es))
  issued_found n = search_found H x (tree es) (tree_grown es n)

  -- the digest is what the path hashes to
  pub issued_digest : 0 < length es → digest H es ≡ H (root_record H x (search H x (tree es)))
  unfolding digest child_octets
  issued_digest n = rw (found_label H x (issued_found n))

  -- K is at most the bit length of the number of entries
  pub issued_low : 0 < length es → suc (height (search H x (tree es))) ≤ bit_length (length es)
  issued_low n = rw (← depth_of_tree es) (found_low H x (issued_found n))

  pub issued_listed : 0 < length es → Ascending es → listed x es ≡ same x (key (foot_entry (search H x (tree es))))
  issued_listed n up =
      rw inorder_of_tree at (found_listed H x (issued_found n) (rw (inorder_of_tree es) up))

  -- a listed key is its foot's
  pub issued_present : 0 < length es → Ascending es → listed x es ≡ true → x ≡ key (foot_entry (search H x (tree es)))
  issued_present n up h = same_true x (key (foot_entry (search H x (tree es)))) (sym (issued_listed n up) ∙ h)

  -- an absent key's attestation is, octet for octet, that of its foot's key
  pub attestation_of_foot : 0 < length es → Ascending es
      → attestation H es x ≡ attestation H es (key (foot_entry (search H x (tree es))))
  unfolding attestation
  attestation_of_foot n up =
      ap render (sym (found_search H (key (foot_entry (search H x (tree es)))) (found_again H x (issued_found n) (rw (inorder_of_tree es) up))))

module _ (H : Octets → Octets) (H_length : (m : Octets) → length (H m) ≡ 32) (w most : ℕ) (es : List Octets) (x : Octets) (l : Listing w most es) where
  pub issued_sized : Sized w (search H x (tree es))
  issued_sized = found_sized H H_length x w (issued_found H es x l.some_entry) (rw (inorder_of_tree es) l.sized)

  module _ (few : most < 2 ^ 32) where
    pub issued_height : height (search H x (tree es)) < 32
    issued_height = omega (arith, found_low H x (issued_found H es x l.some_entry), depth_most 32 es (omega (arith, few, l.few)))

    pub form_of_attestation : form w (attestation H es x) ≡ formed (search H x (tree es))
    unfolding attestation
    form_of_attestation = form_of_render w (search H x (tree es)) issued_sized issued_height
