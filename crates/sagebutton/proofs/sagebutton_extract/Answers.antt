use mathlib.Core.Path.{◌∙◌}
use Rattle.answer.specs.Said.{said}
use Rattle.answer.proofs.SaidLaws.{said_packed}
use Rattle.sagebutton.proofs.sagebutton_extract.Goals as goal

pub returns : goal.returns
returns c = record { told = said c.extract.result; meets = c.extract.ensures; is = c.pack.ensures ∙ said_packed c.extract.result }
