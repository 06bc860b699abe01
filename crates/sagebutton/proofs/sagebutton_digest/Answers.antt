use mathlib.Core.Path.{◌∙◌}
use Rattle.answer.specs.Said.{said}
use Rattle.answer.proofs.SaidLaws.{said_packed}
use Rattle.sagebutton.proofs.sagebutton_digest.Goals as goal

pub returns : goal.returns
returns c = record { told = said c.digest.result; meets = c.digest.ensures; is = c.pack.ensures ∙ said_packed c.digest.result }
