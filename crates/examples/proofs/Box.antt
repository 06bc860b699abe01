-- The examples by computation of all but the labels: tree, search and order compute, a label has 32 octets whatever it is, and the
-- depths follow from the powers of two that the counts reach.
use mathlib.Core.Path.{◌≡◌, refl, ap, ◌∙◌}
use mathlib.Core.Bool.{false}
use mathlib.Core.List.{List, [], ◌∷◌, ◌++◌}
use Prim.Native.Nat.{ℕ, suc, ◌+◌, ◌^◌, ◌≤◌, ◌<◌}
use native.Mathlib.Omega.{arith}
use lib.ListN.{length}
use Rattle.octets.specs.Order.{Octets, order, same}
use Rattle.profile.specs.Profile.{label}
use Rattle.profile.proofs.ProfileLaws.{label_length}
use Rattle.attester.specs.Entry.{key}
use Rattle.attester.specs.Tree.{leaf, tree_within, tree}
use Rattle.attester.specs.Label as labels
use Rattle.attester.specs.Listing.{Listing}
use Rattle.attester.specs.Depth.{depth, bit_length}
use Rattle.attester.specs.Path.{foot_entry}
use Rattle.attester.specs.Reader.{octet, block, many}
use Rattle.attester.specs.Form.{ended, spoilt, is_count, sections, placed, form}
use Rattle.attester.specs.Verdict.{side}
use Rattle.attester.specs.Search.{search, listed}
use Rattle.attester.specs.Attestation.{attestation}
use Rattle.attester.proofs.LengthLaws.{levels_length, render_levels}
use Rattle.attester.proofs.DepthLaws.{depth_of_tree, bit_length_between}
use Rattle.attester.proofs.AttestationLaws.{issued_sized}
use Rattle.attester.proofs.VerifyLaws.{verify_ended, verify_spoilt}
use Rattle.codes.specs.Code.{within, all, digit, key_of}
use Rattle.codes.specs.Count as count
use Rattle.codes.specs.Text as text
use Rattle.tree.specs.Edition.{width, most}
use Rattle.examples.specs.F.{code_1_1, code_2_7, code_3_4, code_3_40, code_A_2, code_3_39, code_1, F}
use Rattle.examples.specs.Box.{over, lone, text_0, text_00, ExamplesHold}

-- one proof after another
infixr 10 ◌also◌
◌also◌ : {A B : Type 0} → A → B → A × B
◌also◌ a b = (a, b)

-- F

F_is : tree F ≡ over code_3_4 (over code_2_7 (lone code_1_1) leaf) (over code_A_2 (lone code_3_40) leaf)
unfolding tree tree_within
F_is = refl

pub F_listing : Listing width most F
unfolding key_of key order
F_listing = record {
  some_entry = omega arith;
  few = omega arith;
  sized = refl also refl also refl also refl also refl also tt;
  ascending =
      (refl also refl also refl also refl also tt)
      also (refl also refl also refl also tt)
      also (refl also refl also tt)
      also (refl also tt)
      also tt
      also tt;
}

absent_3_39 : listed (key_of code_3_39) F ≡ false
unfolding listed same key key_of order
absent_3_39 = refl

absent_1 : listed (key_of code_1) F ≡ false
unfolding listed same key key_of order
absent_1 = refl

-- The attestations, whatever the labels

module _ (profile : ℕ) where
  -- the length of an attestation under F, by its levels
  F_gives : (x : Octets) (n : ℕ) → 3 + levels_length width (search (label profile) x (tree F)) ≡ n → length (attestation (label profile) F x) ≡ n
  unfolding attestation
  F_gives x n e = render_levels width (search (label profile) x (tree F)) (issued_sized (label profile) (label_length profile) width most F x F_listing) ∙ e

  gives_3_4 : length (attestation (label profile) F (key_of code_3_4)) ≡ 88
  unfolding tree tree_within search side key key_of order labels.label levels_length
  gives_3_4 = F_gives (key_of code_3_4) 88 refl

  gives_1_1 : length (attestation (label profile) F (key_of code_1_1)) ≡ 98
  unfolding tree tree_within search side key key_of order labels.label levels_length
  gives_1_1 = F_gives (key_of code_1_1) 98 refl

  gives_3_39 : length (attestation (label profile) F (key_of code_3_39)) ≡ 109
  unfolding tree tree_within search side key key_of order labels.label levels_length
  gives_3_39 = F_gives (key_of code_3_39) 109 refl

  gives_1 : length (attestation (label profile) F (key_of code_1)) ≡ 98
  unfolding tree tree_within search side key key_of order labels.label levels_length
  gives_1 = F_gives (key_of code_1) 98 refl

  foot_3_39 : foot_entry (search (label profile) (key_of code_3_39) (tree F)) ≡ key_of code_2_7
  unfolding tree tree_within search side key key_of order foot_entry
  foot_3_39 = refl

  foot_1 : foot_entry (search (label profile) (key_of code_1) (tree F)) ≡ key_of code_1_1
  unfolding tree tree_within search side key key_of order foot_entry
  foot_1 = refl

-- Depths

depth_between : (b n : ℕ) → 2 ^ b ≤ n → n < 2 ^ suc b → (keys : List Octets) → length keys ≡ n → depth (tree keys) ≡ suc b
depth_between b n least most keys e = depth_of_tree keys ∙ (ap bit_length e ∙ bit_length_between b n least most)

-- Attestations

empty_ends : form width [] ≡ ended 0
unfolding form sections octet placed
empty_ends = refl

lone_ends : form width (1 ∷ []) ≡ ended 1
unfolding form sections octet is_count many block placed
lone_ends = refl

K_33_spoils : (rest : Octets) → form width (33 ∷ [] ++ rest) ≡ spoilt 0
unfolding form sections octet is_count placed
K_33_spoils rest = ap spoilt (omega arith)

-- Texts

reading_0 : (room : ℕ) → text.reading room text_0 ≡ text.refused 2 2
unfolding text.reading text.opening text.second_line text.ended text.before_LF text.line text.rest text.counted order same within all digit count.is_count count.number count.number_after
reading_0 room = refl

reading_00 : (room : ℕ) → text.reading room text_00 ≡ text.refused 12 2
unfolding text.reading text.opening text.second_line text.ended text.before_LF text.line order same within all digit count.is_count
reading_00 room = refl

pub examples_hold : ExamplesHold
examples_hold profile =
    F_is
    also gives_3_4 profile
    also gives_1_1 profile
    also absent_3_39
    also gives_3_39 profile
    also foot_3_39 profile
    also absent_1
    also gives_1 profile
    also foot_1 profile
    also depth_between 0 1 (omega arith) (omega arith)
    also depth_between 1 2 (omega arith) (omega arith)
    also depth_between 1 3 (omega arith) (omega arith)
    also depth_between 2 7 (omega arith) (omega arith)
    also depth_between 3 8 (omega arith) (omega arith)
    also depth_between 11 3000 (omega arith) (omega arith)
    also (λ x d n m. verify_ended (label profile) width x d [] n m 0 empty_ends)
    also (λ rest x d n m. verify_spoilt (label profile) width x d (33 ∷ [] ++ rest) n m 0 (K_33_spoils rest))
    also (λ x d n m. verify_ended (label profile) width x d (1 ∷ []) n m 1 lone_ends)
    also reading_0
    also reading_00
    also tt
