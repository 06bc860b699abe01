-- Readers of octets (01, "Verdict", step 2): each takes its part off the front, or says why it stops.
use Rattle.std.specs.Prelude.{Bool, cond, List, [], ◌∷◌, ℕ, zero, suc, leb, length, take, drop}
use Rattle.octets.specs.Order.{Octets}

-- 01, "Verdict", step 2: the octets end early, or an octet can't stand there: so many octets were left, that one included
pub data Stop : Type 0 where
  short : Stop
  wrong : ℕ → Stop

-- what was read and the octets that are left, or why the reading stopped
pub data Read (A : Type 0) : Type 0 where
  got : A → Octets → Read A
  stopped : Stop → Read A

-- a reader of a part: from the octets that are left when it begins
abbrev pub Reader : Type 0 → Type 0
Reader A = Octets → Read A

-- a reading, and then the one that depends on what was read
abbrev pub after : {A B : Type 0} → Read A → (A → Reader B) → Read B
after (got a s) f = f a s
after (stopped e) f = stopped e

-- one reader after another: the arrows of a `do`
infixl 20 ◌>>=◌
abbrev pub ◌>>=◌ : {A B : Type 0} → Reader A → (A → Reader B) → Reader B
◌>>=◌ m f = λ s. after (m s) f

-- read nothing
abbrev pub give : {A : Type 0} → A → Reader A
give a = λ s. got a s

-- one octet, that passes the test
unfoldable pub octet : (ℕ → Bool) → Reader ℕ
octet stands [] = stopped short
octet stands (b ∷ s) = cond (stands b) (got b s) (stopped (wrong (length (b ∷ s))))

-- n octets, whatever they are
unfoldable pub block : ℕ → Reader Octets
block n s = cond (leb n (length s)) (got (take n s) (drop n s)) (stopped short)

-- n parts of one kind
unfoldable pub many : {A : Type 0} → Reader A → ℕ → Reader (List A)
many part zero = give []
many part (suc n) = do
  a ← part
  l ← many part n
  give (a ∷ l)

-- no octets follow
unfoldable pub close : {A : Type 0} → A → Reader A
close a [] = got a []
close a (b ∷ s) = stopped (wrong (length (b ∷ s)))
