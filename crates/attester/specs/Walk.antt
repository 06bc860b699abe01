-- The walk of the extractor (01, "Extractor"), over any function H from records to labels.
use Rattle.std.specs.Prelude.{cond, ℕ, suc}
use Rattle.std.proofs.Math.Option.{Option, none, some}
use Rattle.octets.specs.Order.{Octets, same}
use Rattle.attester.specs.Path.{Path, foot, step}
use Rattle.attester.specs.Verdict.{root_record}

-- 01: "the number of levels passed", and the two records of the level where they differ, the first path's and the second's
pub record Found : Type 0 where
  pub passed : ℕ
  pub first : Octets
  pub second : Octets

-- one level more was passed
abbrev pub deeper : Option Found → Option Found
deeper none = none
deeper (some f) = some record { passed = suc f.passed; first = f.first; second = f.second }

-- this level's two records, if they differ, or else what is found below
abbrev pub here_or_below : Octets → Octets → Option Found → Option Found
here_or_below r s below = cond (same r s) below (some record { passed = 0; first = r; second = s })

module _ (H : Octets → Octets) (x : Octets) where
  -- 01: "from the root downward, level by level, to the first level where the two node records differ"; none where they agree as
  -- far as both paths go
  unfoldable pub walk : Path → Path → Option Found
  walk (foot e l r) q = here_or_below (root_record H x (foot e l r)) (root_record H x q) none
  walk (step e s p) (foot f l r) = here_or_below (root_record H x (step e s p)) (root_record H x (foot f l r)) none
  walk (step e s p) (step f t q) = here_or_below (root_record H x (step e s p)) (root_record H x (step f t q)) (deeper (walk p q))
