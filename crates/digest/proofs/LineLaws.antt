-- The printed line is the text's: a refusal is reading's own, and an accepted list's digest is that of the keys that were read.
use mathlib.Core.Path.{◌≡◌, sym}
use mathlib.Core.List.{List}
use Prim.Native.Nat.{ℕ, ◌*◌, ◌≤◌, ◌<◌, ◌^◌}
use native.Mathlib.Omega.{arith}
use lib.ListN.{length, take, length-append}
use Rattle.answer.specs.Answer.{Answer}
use Rattle.answer.specs.Answer.{Done, Refused}
use Rattle.octets.specs.Order.{Octets}
use Rattle.profile.specs.Profile.{full, label}
use Rattle.profile.proofs.ProfileLaws.{full_known}
use Rattle.attester.specs.Label.{digest}
use Rattle.codes.specs.Text.{Reading, accepted, refused, reading}
use Rattle.codes.specs.Read.{Read, answer}
use Rattle.codes.proofs.AcceptedLaws.{writable}
use Rattle.tree.specs.Digest.{Digested}
use Rattle.show.specs.Refusal.{refusal_line}
use Rattle.show.proofs.DecimalLaws.{decimal_length}
use Rattle.show.proofs.HexLaws.{hex_length}
use Rattle.sagebutton.proofs.Demand2.{digest_of_reading}
use Rattle.digest.specs.Line.{accepted_line, shown, digest_line}

answer_refused : (r : Reading) (m p : ℕ) → Refused m p ≡ answer r → r ≡ refused m p
unfolding answer
answer_refused (accepted ks) m p e = cc
answer_refused (refused n q) m p e = cc

-- the buffer takes all the keys that are answered
pub read_fits : (text out : Octets) (n : ℕ) (out' : Octets) → Read text out (Done n) out' → 20 * n ≤ length out
read_fits text out n out' r = (writable (length out) text n (sym r.answered)).fits

same_count : (n : ℕ) (ks : List Octets) → Done n ≡ answer (accepted ks) → n ≡ length ks
unfolding answer
same_count n ks a = cc

module _ (text keys : Octets) (big : length keys ≡ 60000) where
  pub line_refused : (m p : ℕ) (keys' : Octets) → Read text keys (Refused m p) keys' → refusal_line m p ≡ digest_line text
  unfolding digest_line shown
  line_refused m p keys' r =
      let e : reading 60000 text ≡ refused m p = rw big at (answer_refused (reading (length keys) text) m p r.answered) in
      rw e

  line_of : (n : ℕ) (ks : List Octets) (d : Octets) → Done n ≡ answer (reading (length keys) text) → reading (length keys) text ≡ accepted ks
      → d ≡ digest (label full) ks → accepted_line n d ≡ digest_line text
  unfolding digest_line shown
  line_of n ks d a e w =
      let e' : reading 60000 text ≡ accepted ks = rw big at e in
      let c : n ≡ length ks = same_count n ks (rw e at a) in
      rw (e', w, c)

  pub line_accepted : (n : ℕ) (keys' d : Octets) (b : Answer) (d' : Octets) → Read text keys (Done n) keys' → length d ≡ 32
      → Digested full (take (20 * n) keys') d b d' → accepted_line n d' ≡ digest_line text
  line_accepted n keys' d b d' r d32 g =
      let h = digest_of_reading full full_known text keys n keys' r d d32 b d' g in
      line_of n h.keys d' r.answered h.read h.written

pub accepted_length : (n : ℕ) (d : Octets) → n < 2 ^ 32 → length d ≡ 32 → length (accepted_line n d) ≤ 96
unfolding accepted_line
accepted_length n d h k = simp length-append (omega (arith, decimal_length 9 n (omega arith), hex_length d))
