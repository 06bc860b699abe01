-- Demand 2, over any function H from records to labels, entries of w octets, and lists of at most `most` entries.
use Rattle.std.specs.Prelude.{◌≡◌, cond, List, ℕ, ◌^◌, ◌<◌, length}
use Rattle.octets.specs.Order.{Octets}
use Rattle.attester.specs.Record.{Labels}
use Rattle.attester.specs.Label.{digest}
use Rattle.attester.specs.Listing.{Listing}
use Rattle.attester.specs.Verdict.{present, absent}
use Rattle.attester.specs.Search.{listed}
use Rattle.attester.specs.Attestation.{attestation}
use Rattle.attester.specs.Verify.{verify}

-- H gives labels of 32 octets, and no list is so long that its tree has more than 32 levels.
-- For every accepted list and every key of 20 octets, the verdict on the key's attestation, under the list's digest, is
-- Present if the key is listed, and Absent if it is not.
abbrev pub Demand2 : (Octets → Octets) → ℕ → ℕ → Type 0
Demand2 H w most = Labels H → most < 2 ^ 32
    → (es : List Octets) (x : Octets) → Listing w most es → length x ≡ 20
    → verify H w x (digest H es) (attestation H es x) ≡ cond (listed x es) present absent
