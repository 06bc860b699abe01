-- The longest attestation that is issued, and the longest octets that have the form. Halving leaves subtrees of at most half
-- the entries; so each level takes one label with it, and where three entries at most are left (the last level or two) little
-- is added. Octets of the form have at most 32 levels, each with its label, and one label more at the foot.
use mathlib.Core.Path.{◌≡◌, refl, ap, ◌∙◌}
use mathlib.Core.List.{List, [], ◌∷◌}
use Prim.Native.Nat.{ℕ, zero, suc, ◌+◌, ◌*◌, ◌/◌, ◌^◌, ◌≤◌, ◌<◌, max}
use native.Mathlib.Nat.{not-suc-le-zero, le_refl, mul-le-mul_right}
use native.Mathlib.Omega.{arith}
use lib.ListN.{length, take, drop, length-append, length-take, length-drop}
use Rattle.octets.specs.Order.{Octets}
use Rattle.attester.specs.Record.{bit}
use Rattle.attester.specs.Tree.{Tree, leaf, node, tree}
use Rattle.attester.specs.Label.{label}
use Rattle.attester.specs.Listing.{Listing}
use Rattle.attester.specs.Path.{Path, height}
use Rattle.attester.specs.Form.{formed, form}
use Rattle.attester.specs.Search.{search}
use Rattle.attester.specs.Attestation.{attestation}
use Rattle.attester.proofs.TreeLaws.{inorder, tree_none, tree_node, inorder_of_tree}
use Rattle.attester.proofs.RecordLaws.{bit_most}
use Rattle.attester.proofs.FormLaws.{form_rendered}
use Rattle.attester.proofs.SearchLaws.{Found, hit, end_left, end_right, go_left, go_right}
use Rattle.attester.proofs.AttestationLaws.{issued_found, issued_sized}
use Rattle.attester.proofs.LengthLaws.{labels, levels_length, render_length, render_levels, labels_most}

-- Trees by their size

unfoldable size : Tree → ℕ
size leaf = 0
size (node l e r) = suc (size l + size r)

size_inorder : (t : Tree) → size t ≡ length (inorder t)
unfolding size inorder
size_inorder leaf = refl
size_inorder (node l e r) = simp length-append (omega (arith, size_inorder l, size_inorder r))

size_of_tree : (es : List Octets) → size (tree es) ≡ length es
size_of_tree es = size_inorder (tree es) ∙ ap length (inorder_of_tree es)

-- no subtree has more than half of the entries
abbrev Halved : Tree → Type 0
Halved leaf = Unit {0}
Halved (node l e r) = (2 * size l ≤ suc (size l + size r)) × (2 * size r ≤ suc (size l + size r)) × Halved l × Halved r

within_halved : (n : ℕ) (es : List Octets) → length es ≤ n → Halved (tree es)
within_halved zero [] h = rw tree_none tt
within_halved zero (e ∷ es) h = absurd (not-suc-le-zero h)
within_halved (suc n) [] h = rw tree_none tt
within_halved (suc n) (e ∷ es) h =
    let a = take (length (e ∷ es) / 2) (e ∷ es) in
    let b = drop (suc (length (e ∷ es) / 2)) (e ∷ es) in
    let na : length a ≡ length (e ∷ es) / 2 = simp length-take (omega arith) in
    let nb : suc (length a + length b) ≡ length (e ∷ es) = rw na (simp length-drop (omega arith)) in
    let l = within_halved n a (omega arith) in
    let r = within_halved n b (omega arith) in
    rw (tree_node (e ∷ es) (omega arith), size_of_tree a, size_of_tree b) (omega arith, omega arith, l, r)

tree_halved : (es : List Octets) → Halved (tree es)
tree_halved es = within_halved (length es) es (le_refl _)

-- a subtree without entries has no label
label_bit_size : (H : Octets → Octets) (t : Tree) → bit (label H t) ≤ size t
unfolding label size
label_bit_size H leaf = omega arith
label_bit_size H (node l e r) = omega arith

module _ (H : Octets → Octets) (x : Octets) (w : ℕ) where
  found_size : {t : Tree} {p : Path} → Found H x t p → 0 < size t
  unfolding size
  found_size (hit s) = omega arith
  found_size (end_left s) = omega arith
  found_size (end_right s) = omega arith
  found_size (go_left s f) = omega arith
  found_size (go_right s f) = omega arith

  found_one : {t : Tree} {p : Path} → Found H x t p → size t ≤ 1 → levels_length w p ≤ w + 1
  unfolding size levels_length
  found_one (hit {l} {r} s) h = omega (arith, label_bit_size H l, label_bit_size H r)
  found_one (end_left {r} s) h = omega (arith, label_bit_size H r)
  found_one (end_right {l} s) h = omega (arith, label_bit_size H l)
  found_one (go_left s f) h = absurd (omega (arith, found_size f))
  found_one (go_right s f) h = absurd (omega (arith, found_size f))

  -- the last two levels: a foot with one label, or a step to the last entry
  found_two : {t : Tree} {p : Path} → Found H x t p → size t ≤ 2 → levels_length w p ≤ max (w + 33) (2 * (w + 1))
  unfolding size levels_length
  found_two (hit {l} {r} s) h = omega (arith, label_bit_size H l, label_bit_size H r)
  found_two (end_left {r} s) h = omega (arith, label_bit_size H r, bit_most (label H r))
  found_two (end_right {l} s) h = omega (arith, label_bit_size H l, bit_most (label H l))
  found_two (go_left {l} {r} s f) h = omega (arith, found_size f, found_one f (omega (arith, found_size f)), label_bit_size H r)
  found_two (go_right {l} {r} s f) h = omega (arith, found_size f, found_one f (omega (arith, found_size f)), label_bit_size H l)

  found_most : {t : Tree} {p : Path} (b : ℕ) → Found H x t p → Halved t → size t < 3 * 2 ^ b
      → levels_length w p ≤ (w + 33) * b + max (w + 33) (2 * (w + 1))
  unfolding size levels_length
  found_most zero f h n = omega (arith, found_two f (omega arith))
  found_most (suc b) (hit {l} {r} s) h n = omega (arith, bit_most (label H l), bit_most (label H r))
  found_most (suc b) (end_left {r} s) h n = omega (arith, bit_most (label H r))
  found_most (suc b) (end_right {l} s) h n = omega (arith, bit_most (label H l))
  found_most (suc b) (go_left {l = l} {r = r} {p = p} s f) h n =
      omega (arith, bit_most (label H r), found_most {t = l} {p = p} b f h.2 (omega (arith, h.0)))
  found_most (suc b) (go_right {l = l} {r = r} {p = p} s f) h n =
      omega (arith, bit_most (label H l), found_most {t = r} {p = p} b f h.3 (omega (arith, h.1)))

-- The longest that is issued: fewer than 3 * 2 ^ b entries

pub attestation_most : (H : Octets → Octets) → ((m : Octets) → length (H m) ≡ 32) → (w most b : ℕ) (es : List Octets) (x : Octets)
    → Listing w most es → most < 3 * 2 ^ b
    → length (attestation H es x) ≤ 3 + ((w + 33) * b + max (w + 33) (2 * (w + 1)))
unfolding attestation
attestation_most H H_length w most b es x l n =
    let f = issued_found H es x l.some_entry in
    let fewer : size (tree es) < 3 * 2 ^ b = rw (size_of_tree es) (omega (arith, l.few, n)) in
    omega (
      arith,
      render_levels w (search H x (tree es)) (issued_sized H H_length w most es x l),
      found_most H x w b f (tree_halved es) fewer,
    )

-- The longest that has the form

pub form_most : (w : ℕ) (a : Octets) (p : Path) → form w a ≡ formed p → length a ≤ 1091 + 32 * w
form_most w a p f =
    let r = form_rendered w a p f in
    let long : length a ≡ 3 + suc (height p) * (w + 1) + 32 * labels p = ap length r.is ∙ render_length w p r.sized in
    let levels : suc (height p) * (w + 1) ≤ 32 * (w + 1) = mul-le-mul_right (w + 1) r.low in
    omega (arith, long, levels, labels_most p, r.low)
