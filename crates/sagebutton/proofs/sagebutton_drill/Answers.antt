use mathlib.Core.Path.{◌∙◌}
use Rattle.contradiction.specs.Outcome.{said_found}
use Rattle.contradiction.proofs.PackedLaws.{found_packed}
use Rattle.sagebutton.proofs.sagebutton_drill.Goals as goal

pub returns : goal.returns
returns c = record { told = said_found c.drill.result; meets = c.drill.ensures; is = c.pack.ensures ∙ found_packed c.drill.result }
