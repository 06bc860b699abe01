-- The attestation's form (01, "The attestation"; "Verdict", step 2), for entries of w octets.
use Rattle.std.specs.Prelude.{Bool, ◌&&◌, List, [], ◌∷◌, ℕ, zero, suc, ◌-◌, leb, eqb, length}
use Rattle.std.proofs.Math.Option.{none, some}
use Rattle.octets.specs.Order.{Octets}
use Rattle.attester.specs.Record.{Child}
use Rattle.attester.specs.Path.{Path, foot, step}
use Rattle.attester.specs.Reader.{short, wrong, Read, got, stopped, Reader, ◌>>=◌, give, octet, block, many, close}

-- the label that a count of 0 or 1 announces
abbrev pub announced : ℕ → Reader Child
announced zero = give none
announced (suc n) = do
  l ← block 32
  give (some l)

-- 01: "An optional label is its count, 0 or 1, then that many labels of 32 octets."
unfoldable pub optional : Reader Child
optional = do
  n ← octet (λ n. leb n 1)
  announced n

-- a path with nodes put on top: their entries, and their children off the path, from the lowest up
unfoldable pub climb : Path → List Octets → List Child → Path
climb p [] ss = p
climb p (e ∷ es) [] = p
climb p (e ∷ es) (s ∷ ss) = climb (step e s p) es ss

-- the path of the four sections: "k0 to km", the foot's two children, the siblings
abbrev pub path_of : List Octets → Child → Child → List Child → Path
path_of [] l r ss = foot [] l r
path_of (e ∷ es) l r ss = climb (foot e l r) es ss

-- 01: "count K, one octet, 1 to 32"
unfoldable pub is_count : ℕ → Bool
is_count k = leb 1 k && leb k 32

-- 01: the four sections, the siblings' count "equal to K - 1"; "No octets follow."
unfoldable pub sections : ℕ → Reader Path
sections w = do
  k ← octet is_count
  es ← many (block w) k
  l ← optional
  r ← optional
  m ← octet (λ m. eqb m (k - 1))
  ss ← many optional m
  close (path_of es l r ss)

-- the path that was read; or the length, where the octets end early; or the offset of the first that can't stand there
pub data Form : Type 0 where
  formed : Path → Form
  ended : ℕ → Form
  spoilt : ℕ → Form

-- 01, step 2: "The place is the offset of the first octet that can't stand there, or the length if it ends early", of n octets
unfoldable pub placed : ℕ → Read Path → Form
placed n (got p s) = formed p
placed n (stopped short) = ended n
placed n (stopped (wrong left)) = spoilt (n - left)

-- 01, step 2: the form of the octets a
unfoldable pub form : ℕ → Octets → Form
form w a = placed (length a) (sections w a)

-- the path that was read; a foot of nothing where none was
abbrev pub path_read : Form → Path
path_read (formed p) = p
path_read (ended n) = foot [] none none
path_read (spoilt n) = foot [] none none

-- the path that octets of the form show
unfoldable pub shown : ℕ → Octets → Path
shown w a = path_read (form w a)
