-- 01, "The program": the one line that `digest` prints.
use Rattle.std.specs.Prelude.{[], ◌∷◌, ◌++◌, ℕ, ◌*◌, length}
use Rattle.octets.specs.Order.{Octets}
use Rattle.profile.specs.Profile.{full, label}
use Rattle.attester.specs.Label.{digest}
use Rattle.codes.specs.Text.{Reading, accepted, refused, reading}
use Rattle.tree.specs.Edition.{width, most}
use Rattle.show.specs.Decimal.{decimal}
use Rattle.show.specs.Hex.{hex}
use Rattle.show.specs.Refusal.{refusal_line}

-- "digest" and a space in ASCII
abbrev pub digest_word : Octets
digest_word = 100 ∷ 105 ∷ 103 ∷ 101 ∷ 115 ∷ 116 ∷ 32 ∷ []

-- "`digest`, the count, and 64 lower-case hex digits"
unfoldable pub accepted_line : ℕ → Octets → Octets
accepted_line n d = digest_word ++ decimal n ++ (32 ∷ []) ++ hex d ++ (10 ∷ [])

-- "or `refused`, the number and the place"
unfoldable pub shown : Reading → Octets
shown (accepted ks) = accepted_line (length ks) (digest (label full) ks)
shown (refused m p) = refusal_line m p

-- the line for a text, read into a buffer for as many keys as a list may have
unfoldable pub digest_line : Octets → Octets
digest_line text = shown (reading (most * width) text)
