-- All that README's "What is proved" claims beyond the contracts of the functions themselves, in one place. The contract of
-- `sagebutton_verify` asks for it, so that the crate is not proved when one of these proofs is missing. A statement that is not here,
-- and in no contract, is not claimed.
use Rattle.std.specs.Prelude.{◌≡◌, List, ℕ, length}
use Rattle.octets.specs.Order.{Octets}
use Rattle.answer.specs.Tells.{AnswersTell}
use Rattle.sha256.specs.Standard.{StandardSays}
use Rattle.sha256.specs.Examples as sha256
use Rattle.attester.specs.Tree.{tree}
use Rattle.attester.specs.Depth.{depth, bit_length}
use Rattle.attester.specs.Demand2 as theory2
use Rattle.attester.specs.Demand3 as theory3
use Rattle.examples.specs.Box.{ExamplesHold}
use Rattle.examples.specs.Values.{Values}
use Rattle.contradiction.specs.Outcome.{OutcomesTell}
use Rattle.contradiction.specs.Shows.{Shows}
use Rattle.sagebutton.specs.Bounds.{Bounds}
use Rattle.sagebutton.specs.Packed.{NumbersTell}
use Rattle.sagebutton.specs.VerdictNumber.{VerdictsUnmistakable}
use Rattle.sagebutton.specs.OneOutcome.{EveryInputHasOneOutcome}
use Rattle.sagebutton.specs.Profiles.{Profiles}
use Rattle.sagebutton.specs.Demand1.{Demand1}
use Rattle.sagebutton.specs.Demand2.{Demand2}
use Rattle.sagebutton.specs.Demand3.{Demand3, DrillContradicts}
use Rattle.sagebutton.specs.Lies.{LiesAreContradicted}
use Rattle.sagebutton.specs.WrongPrograms.{WrongProgramsRejected}

pub record Proved : Type 0 where
  -- the three demands
  pub demand_1 : Demand1
  pub demand_2 : Demand2
  pub demand_3 : Demand3
  -- what 2 and 3 say together of a stranger's attestation
  pub lies_are_contradicted : LiesAreContradicted
  -- demands 2 and 3 over any function from node records to labels and entries of any width; and that verdicts which differ are of
  -- paths which differ
  pub demand_2_for_any : (H : Octets → Octets) (w most : ℕ) → theory2.Demand2 H w most
  pub demand_3_for_any : (H : Octets → Octets) (w : ℕ) → theory3.Demand3 H w
  pub verdicts_tell_paths : (H : Octets → Octets) (w : ℕ) → theory3.VerdictsTellPaths H w
  -- one outcome for every input, how large its answer can be, and that an export's number tells it
  pub one_outcome : EveryInputHasOneOutcome
  pub bounds : Bounds
  pub numbers_tell : NumbersTell
  pub verdicts_unmistakable : VerdictsUnmistakable
  -- and that no two answers of the code say the same
  pub answers_tell : AnswersTell
  pub outcomes_tell : OutcomesTell
  -- the profiles, and the drill
  pub profiles : Profiles
  pub drill_shows : Shows
  pub drill_contradicts : DrillContradicts
  -- SHA-256: what the standard says of its own definitions, and values that NIST publishes
  pub standard_says : StandardSays
  pub standard_examples : sha256.Examples
  -- 01: a tree's depth "is the bit length of n"
  pub depth_of_tree : (keys : List Octets) → depth (tree keys) ≡ bit_length (length keys)
  -- the examples marked P, and values for list F and the drill
  pub examples : ExamplesHold
  pub values : Values
  -- wrong programs do not keep the promises
  pub wrong_programs : WrongProgramsRejected
