use mathlib.Core.Path.{◌∙◌}
use Rattle.answer.specs.Said.{said}
use Rattle.answer.proofs.SaidLaws.{said_packed}
use Rattle.sagebutton.proofs.sagebutton_hash.Goals as goal

pub returns : goal.returns
returns c = record { told = said c.hash.result; meets = c.hash.ensures; is = c.pack.ensures ∙ said_packed c.hash.result }
