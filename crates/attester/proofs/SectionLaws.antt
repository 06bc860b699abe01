-- The form, section by section: a reading that succeeded is the form's path, and one that stops at the foot stops the whole.
use mathlib.Core.Path.{◌≡◌}
use mathlib.Core.Bool.{true}
use Prim.Native.Nat.{ℕ, ◌+◌, ◌*◌, ◌≤◌, ◌<◌}
use lib.ListN.{length, drop, get_or}
use Rattle.octets.specs.Order.{Octets}
use Rattle.attester.specs.Path.{Path}
use Rattle.attester.specs.Reader.{Stop, got, stopped}
use Rattle.attester.specs.Form.{optional, is_count, sections, formed, placed, form}
use Rattle.attester.proofs.OffsetLaws.{octet_at, blocks_at, OptionalAt}

pub form_formed : (w : ℕ) (a : Octets) (p : Path) (s : Octets) → sections w a ≡ got p s → form w a ≡ formed p
unfolding form placed
form_formed w a p s e = rw e

-- The foot's left, and its right, behind the keys

module _ (w : ℕ) (a : Octets) (h : 0 < length a) (c : is_count (get_or a 0 0) ≡ true) (k : 1 + get_or a 0 0 * w ≤ length a) where
  pub sections_left_stop : (r : Stop) → optional (drop (1 + get_or a 0 0 * w) a) ≡ stopped r → sections w a ≡ stopped r
  unfolding sections
  sections_left_stop r e = rw (octet_at is_count a 0 h c, blocks_at w (get_or a 0 0) a 1 k, e)

  module _ (p : ℕ) (left : OptionalAt a (1 + get_or a 0 0 * w) p) where
    pub sections_right_stop : (r : Stop) → optional (drop p a) ≡ stopped r → sections w a ≡ stopped r
    unfolding sections
    sections_right_stop r e = rw (octet_at is_count a 0 h c, blocks_at w (get_or a 0 0) a 1 k, left.is, e)
