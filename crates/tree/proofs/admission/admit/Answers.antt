-- Each refusal is the definition's by its own law, in the same order; what is left is the order of the keys.
use mathlib.Core.Path.{sym, ap, ◌∙◌}
use native.Mathlib.Omega.{arith}
use Rattle.std.proofs.Common.{rules}
use Rattle.attester.proofs.AdmissionLaws.{admit_no_keys, admit_ragged, admit_too_many, admit_sound}
use Rattle.tree.specs.Admitted.{answer_of}
use Rattle.tree.specs.Edition.{width, most}
use Rattle.tree.proofs.admission.admit.Goals as goal

pub returns-then-is_empty : goal.returns-then-is_empty
returns-then-is_empty c = rw c.at.ensures (ap answer_of (sym (admit_no_keys width most c.args.keys.now (search rules))))

pub returns-then-keys-ne0 : goal.returns-then-keys-ne0
returns-then-keys-ne0 c = rw c.at-then-keys-ne0.ensures (ap answer_of (sym (admit_ragged width most c.args.keys.now (search rules) (omega arith))))

pub returns-then-n-gt3000 : goal.returns-then-n-gt3000
returns-then-n-gt3000 c = rw c.at-then-n-gt3000.ensures (ap answer_of (sym (admit_too_many width most c.args.keys.now (search rules) (omega arith) (omega arith))))

pub returns : goal.returns
returns c = c.ascending.ensures ∙ ap answer_of (sym (admit_sound width most c.args.keys.now (search rules) (omega arith) (omega arith)))
