use mathlib.Core.Path.{◌∙◌}
use Rattle.answer.specs.Said.{said}
use Rattle.answer.proofs.SaidLaws.{said_packed}
use Rattle.sagebutton.proofs.sagebutton_attest.Goals as goal

pub returns : goal.returns
returns c = record { told = said c.attest.result; meets = c.attest.ensures; is = c.pack.ensures ∙ said_packed c.attest.result }
