use mathlib.Core.Path.{◌∙◌}
use Rattle.answer.specs.Said.{said}
use Rattle.answer.proofs.SaidLaws.{said_packed}
use Rattle.sagebutton.proofs.sagebutton_read_list.Goals as goal

pub returns : goal.returns
returns c = record { told = said c.read_list.result; meets = c.read_list.ensures; is = c.pack.ensures ∙ said_packed c.read_list.result }
