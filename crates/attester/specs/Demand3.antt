-- Demand 3, over any function H from records to labels and entries of w octets: no premise says where the digest comes from.
use Rattle.std.specs.Prelude.{◌≡◌, ℕ, ◌≤◌}
use Rattle.std.proofs.Math.Option.{some}
use Rattle.octets.specs.Order.{Octets}
use Rattle.attester.specs.Record.{Labels}
use Rattle.attester.specs.Path.{Path, height, down}
use Rattle.attester.specs.Verdict.{Accepted, root_record}
use Rattle.attester.specs.Form.{shown}
use Rattle.attester.specs.Verify.{verify}
use Rattle.attester.specs.Walk.{Found, walk}

-- r is the node record of the path p, i levels below the root, as step 5 of the verdict for x rebuilds it
pub record Rebuilt (H : Octets → Octets) (x : Octets) (p : Path) (i : ℕ) (r : Octets) : Type 0 where
  pub level : i ≤ height p
  pub is : r ≡ root_record H x (down i p)

-- two different node records with the same label, one rebuilt from each path, on the same level
pub record Contradiction (H : Octets → Octets) (x : Octets) (p q : Path) (f : Found) : Type 0 where
  pub first_rebuilt : Rebuilt H x p f.passed f.first
  pub second_rebuilt : Rebuilt H x q f.passed f.second
  pub differ : f.first ≡ f.second → ⊥
  pub same_label : H f.first ≡ H f.second

-- what the walk finds, and that it is such a pair
pub record Walked (H : Octets → Octets) (x : Octets) (p q : Path) : Type 0 where
  pub found : Found
  pub is : walk H x p q ≡ some found
  pub contradiction : Contradiction H x p q found

-- H gives labels of 32 octets. For any key, any digest and any two attestations that the verifier accepts, whoever made them: if their verdicts differ, or
-- merely the paths that they show, the walk finds such a pair.
abbrev pub Demand3 : (Octets → Octets) → ℕ → Type 0
Demand3 H w = Labels H
    → (x d a b : Octets) → Accepted (verify H w x d a) → Accepted (verify H w x d b)
    → (shown w a ≡ shown w b → ⊥) → Walked H x (shown w a) (shown w b)

-- verdicts that differ are of paths that differ
abbrev pub VerdictsTellPaths : (Octets → Octets) → ℕ → Type 0
VerdictsTellPaths H w = (x d a b : Octets) → Accepted (verify H w x d a) → Accepted (verify H w x d b)
    → (verify H w x d a ≡ verify H w x d b → ⊥) → shown w a ≡ shown w b → ⊥
