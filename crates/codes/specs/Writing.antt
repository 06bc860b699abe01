-- How a list of codes is written as text, and with it that reading skips nothing.
use Rattle.std.specs.Prelude.{◌≡◌, Bool, true, cond, ◌&&◌, List, [], ◌∷◌, ◌++◌, map, ℕ, ◌*◌, ◌≤◌, eqb, length}
use Rattle.std.proofs.Math.Option.{Option, none, some}
use Rattle.octets.specs.Order.{Octets}
use Rattle.show.specs.Decimal.{decimal}
use Rattle.codes.specs.Code.{is_code, key_of}
use Rattle.codes.specs.Text.{accepted, above, opening, reading}

-- one code a line
unfoldable pub code_lines : List Octets → Octets
code_lines [] = []
code_lines (c ∷ cs) = c ++ 10 ∷ code_lines cs

-- the two head lines, then the codes
unfoldable pub text_of : List Octets → Octets
text_of cs = opening ++ (decimal (length cs) ++ 10 ∷ code_lines cs)

-- the code that a key stands for: its octets before the first zero
unfoldable pub code_of : Octets → Octets
code_of [] = []
code_of (c ∷ k) = cond (eqb c 0) [] (c ∷ code_of k)

-- each is a code
unfoldable pub all_codes : List Octets → Bool
all_codes [] = true
all_codes (c ∷ cs) = is_code c && all_codes cs

-- each key stands above the one before
unfoldable pub ascending : Option Octets → List Octets → Bool
ascending before [] = true
ascending before (k ∷ ks) = above before k && ascending (some k) ks

-- a list of 1 to 3,000 codes, their keys strictly ascending, for a buffer of `room` octets
pub record Listing (room : ℕ) (cs : List Octets) : Type 0 where
  pub codes : all_codes cs ≡ true
  pub order : ascending none (map key_of cs) ≡ true
  pub some_codes : 1 ≤ length cs
  pub few : length cs ≤ 3000
  pub fits : 20 * length cs ≤ room

-- An accepted text is, octet for octet, the two head lines and then, for each key that is written, in order, that key's code and LF, and nothing else.
pub record Whole (room : ℕ) (text : Octets) (ks : List Octets) : Type 0 where
  pub octet_for_octet : text ≡ text_of (map code_of ks)
  pub its_keys : map key_of (map code_of ks) ≡ ks
  pub listing : Listing room (map code_of ks)

-- Reading skips nothing.
abbrev pub NothingSkipped : Type 0
NothingSkipped = (room : ℕ) (text : Octets) (ks : List Octets) → reading room text ≡ accepted ks → Whole room text ks

-- Conversely every such list, so written, is accepted and gives exactly those keys.
abbrev pub EveryListingAccepted : Type 0
EveryListingAccepted = (room : ℕ) (cs : List Octets) → Listing room cs → reading room (text_of cs) ≡ accepted (map key_of cs)
