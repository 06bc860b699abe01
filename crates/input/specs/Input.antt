-- What reading an input answers. What standard input gives, no contract can say; of a reader that says what it has left, all is said.
use Rattle.std.specs.Prelude.{ℕ, ◌<◌, List, length, take, Option}
use Rattle.std.specs.Io.KnownBytes.{Consumes, IsAtEnd}

-- n octets were read: of what the input had left, those that now stand at the front came first; with room for one more, none was left
-- after them
abbrev pub Took : Option (List ℕ) → Option (List ℕ) → List ℕ → ℕ → Type 0
Took old new text n = Consumes old new (take n text) × (n < length text → IsAtEnd new)
