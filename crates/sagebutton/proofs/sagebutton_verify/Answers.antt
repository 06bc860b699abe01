-- The number is that of the verdict that `verify` gives; and the statements of `Proved` have their proofs.
use mathlib.Core.Path.{◌∙◌}
use Rattle.answer.specs.Said.{said_verdict}
use Rattle.answer.proofs.SaidLaws.{verdict_packed}
use Rattle.sagebutton.proofs.Proved.{proved}
use Rattle.sagebutton.proofs.sagebutton_verify.Goals as goal

pub returns : goal.returns
returns c =
    (record { told = said_verdict c.verify.result; meets = c.verify.ensures; is = c.pack.ensures ∙ verdict_packed c.verify.result }, proved)
