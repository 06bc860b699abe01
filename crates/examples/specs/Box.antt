-- 01, "Box of examples": "Those marked P are proved, together, as one statement over one list of examples". Proved in
-- `proofs/Box.antt`.
use Rattle.std.specs.Prelude.{◌≡◌, false, List, [], ◌∷◌, ◌++◌, ℕ, length}
use Rattle.octets.specs.Order.{Octets}
use Rattle.profile.specs.Profile.{label}
use Rattle.attester.specs.Tree.{Tree, leaf, node, tree}
use Rattle.attester.specs.Depth.{depth}
use Rattle.attester.specs.Path.{foot_entry}
use Rattle.attester.specs.Verdict as verdict
use Rattle.attester.specs.Verify.{verify}
use Rattle.attester.specs.Search.{search, listed}
use Rattle.attester.specs.Attestation.{attestation}
use Rattle.codes.specs.Code.{key_of}
use Rattle.codes.specs.Text as text
use Rattle.tree.specs.Edition.{width}
use Rattle.examples.specs.F.{code_1_1, code_2_7, code_3_4, code_3_40, code_A_2, code_3_39, code_1, F}

-- a node with two subtrees, by its code; and one with none
abbrev pub over : Octets → Tree → Tree → Tree
over c l r = node l (key_of c) r

abbrev pub lone : Octets → Tree
lone c = node leaf (key_of c) leaf

-- the lines `codes` and `0`
abbrev pub text_0 : Octets
text_0 = 0x63 ∷ 0x6F ∷ 0x64 ∷ 0x65 ∷ 0x73 ∷ 0x0A ∷ 0x30 ∷ 0x0A ∷ []

-- the lines `codes` and `00`
abbrev pub text_00 : Octets
text_00 = 0x63 ∷ 0x6F ∷ 0x64 ∷ 0x65 ∷ 0x73 ∷ 0x0A ∷ 0x30 ∷ 0x30 ∷ 0x0A ∷ []

-- what an example claims: F's tree; a code's absence from F; its attestation's length and foot; the depth of so many keys; the
-- refusal, number and place, of these octets as an attestation, of all that begin with these, or of a text
pub data Example : Type 0 where
  F_is : Tree → Example
  absent : Octets → Example
  gives : Octets → ℕ → Example
  has_foot : Octets → Octets → Example
  depth_of : ℕ → ℕ → Example
  attestation_refused : Octets → ℕ → ℕ → Example
  beginning_refused : Octets → ℕ → ℕ → Example
  text_refused : Octets → ℕ → ℕ → Example

-- the verdict on these octets, for any key under any digest
abbrev pub RefusedForAll : ℕ → Octets → ℕ → ℕ → Type 0
RefusedForAll profile a m p = (x d : Octets) → length x ≡ 20 → length d ≡ 32 → verify (label profile) width x d a ≡ verdict.refused m p

-- that this is so with the labels of a profile
abbrev pub Holds : ℕ → Example → Type 0
Holds profile (F_is t) = tree F ≡ t
Holds profile (absent c) = listed (key_of c) F ≡ false
Holds profile (gives c n) = length (attestation (label profile) F (key_of c)) ≡ n
Holds profile (has_foot c f) = foot_entry (search (label profile) (key_of c) (tree F)) ≡ key_of f
Holds profile (depth_of n b) = (keys : List Octets) → length keys ≡ n → depth (tree keys) ≡ b
Holds profile (attestation_refused a m p) = RefusedForAll profile a m p
Holds profile (beginning_refused a m p) = (rest : Octets) → RefusedForAll profile (a ++ rest) m p
Holds profile (text_refused t m p) = (room : ℕ) → text.reading room t ≡ text.refused m p

-- each of them is so
abbrev pub AllHold : ℕ → List Example → Type 0
AllHold profile [] = Unit {0}
AllHold profile (e ∷ es) = Holds profile e × AllHold profile es

-- the box's examples marked P, in its order
abbrev pub examples : List Example
examples =
    -- "F's root is 3-4; 2-7 and A-2 below it; 1-1 left of 2-7, 3-40 left of A-2"
    F_is (over code_3_4 (over code_2_7 (lone code_1_1) leaf) (over code_A_2 (lone code_3_40) leaf))
    -- "lengths under F: 3-4 gives 88; 1-1 gives 98; absent 3-39 gives 109, foot 2-7; absent code 1 gives 98, foot 1-1"
    ∷ gives code_3_4 88
    ∷ gives code_1_1 98
    ∷ absent code_3_39
    ∷ gives code_3_39 109
    ∷ has_foot code_3_39 code_2_7
    ∷ absent code_1
    ∷ gives code_1 98
    ∷ has_foot code_1 code_1_1
    -- "depths of 1, 2, 3, 7, 8 and 3,000 are 1, 2, 2, 3, 4, 12"
    ∷ depth_of 1 1
    ∷ depth_of 2 2
    ∷ depth_of 3 2
    ∷ depth_of 7 3
    ∷ depth_of 8 4
    ∷ depth_of 3000 12
    -- "an empty attestation is 7 at 0; K = 33 is 7 at 0; a lone octet 01 is 7 at 1"
    ∷ attestation_refused [] 7 0
    ∷ beginning_refused (33 ∷ []) 7 0
    ∷ attestation_refused (0x01 ∷ []) 7 1
    -- "`codes`, `0` is 2 at 2; `codes`, `00` is 12 at 2"
    ∷ text_refused text_0 2 2
    ∷ text_refused text_00 12 2
    ∷ []

-- with the labels of any profile
abbrev pub ExamplesHold : Type 0
ExamplesHold = (profile : ℕ) → AllHold profile examples
