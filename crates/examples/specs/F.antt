-- List F of document 01's box of examples, and the codes that its examples ask about.
use Rattle.std.specs.Prelude.{List, [], ◌∷◌, map}
use Rattle.octets.specs.Order.{Octets}
use Rattle.codes.specs.Code.{key_of}

-- 1-1
abbrev pub code_1_1 : Octets
code_1_1 = 0x31 ∷ 0x2D ∷ 0x31 ∷ []

-- 2-7
abbrev pub code_2_7 : Octets
code_2_7 = 0x32 ∷ 0x2D ∷ 0x37 ∷ []

-- 3-4
abbrev pub code_3_4 : Octets
code_3_4 = 0x33 ∷ 0x2D ∷ 0x34 ∷ []

-- 3-40
abbrev pub code_3_40 : Octets
code_3_40 = 0x33 ∷ 0x2D ∷ 0x34 ∷ 0x30 ∷ []

-- A-2
abbrev pub code_A_2 : Octets
code_A_2 = 0x41 ∷ 0x2D ∷ 0x32 ∷ []

-- 3-39
abbrev pub code_3_39 : Octets
code_3_39 = 0x33 ∷ 0x2D ∷ 0x33 ∷ 0x39 ∷ []

-- 1
abbrev pub code_1 : Octets
code_1 = 0x31 ∷ []

-- "List F is 1-1, 2-7, 3-4, 3-40, A-2": its keys
abbrev pub F : List Octets
F = map key_of (code_1_1 ∷ code_2_7 ∷ code_3_4 ∷ code_3_40 ∷ code_A_2 ∷ [])
