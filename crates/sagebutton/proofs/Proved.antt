-- Each statement by its own proof.
use Rattle.answer.proofs.SaidLaws.{answers_tell}
use Rattle.sha256.proofs.Standard.{standard_says}
use Rattle.sha256.proofs.Examples as sha256
use Rattle.attester.proofs.Demand2 as theory2
use Rattle.attester.proofs.Demand3 as theory3
use Rattle.attester.proofs.DepthLaws.{depth_of_tree}
use Rattle.examples.proofs.Box.{examples_hold}
use Rattle.examples.proofs.Values.{values}
use Rattle.contradiction.proofs.PackedLaws.{outcomes_tell}
use Rattle.contradiction.proofs.Shows.{shows}
use Rattle.sagebutton.specs.Proved.{Proved}
use Rattle.sagebutton.proofs.Bounds.{bounds}
use Rattle.sagebutton.proofs.Packed.{numbers_tell}
use Rattle.sagebutton.proofs.VerdictNumber.{verdicts_unmistakable}
use Rattle.sagebutton.proofs.OneOutcome.{every_input_has_one_outcome}
use Rattle.sagebutton.proofs.Profiles.{profiles}
use Rattle.sagebutton.proofs.Demand1.{demand_1}
use Rattle.sagebutton.proofs.Demand2.{demand_2}
use Rattle.sagebutton.proofs.Demand3.{demand_3}
use Rattle.sagebutton.proofs.DrillContradicts.{drill_contradicts}
use Rattle.sagebutton.proofs.Lies.{lies_are_contradicted}
use Rattle.sagebutton.proofs.WrongPrograms.{wrong_programs_rejected}

pub proved : Proved
proved = record {
  demand_1 = demand_1;
  demand_2 = demand_2;
  demand_3 = demand_3;
  lies_are_contradicted = lies_are_contradicted;
  demand_2_for_any = theory2.demand_2;
  demand_3_for_any = theory3.demand_3;
  verdicts_tell_paths = theory3.verdicts_tell_paths;
  one_outcome = every_input_has_one_outcome;
  bounds = bounds;
  numbers_tell = numbers_tell;
  verdicts_unmistakable = verdicts_unmistakable;
  answers_tell = answers_tell;
  outcomes_tell = outcomes_tell;
  profiles = profiles;
  drill_shows = shows;
  drill_contradicts = drill_contradicts;
  standard_says = standard_says;
  standard_examples = sha256.examples;
  depth_of_tree = depth_of_tree;
  examples = examples_hold;
  values = values;
  wrong_programs = wrong_programs_rejected;
}
