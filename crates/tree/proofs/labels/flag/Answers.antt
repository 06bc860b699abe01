-- A truth value as an octet is 0 or 1, so nothing wraps.
use native.Mathlib.Omega.{arith}
use Rattle.tree.proofs.LabelLaws.{one_if_most}
use Rattle.tree.proofs.labels.flag.Goals as goal

pub overflow_mul-result : goal.overflow_mul-result
overflow_mul-result c = omega (arith, one_if_most c.args.right)

pub overflow_add-result : goal.overflow_add-result
overflow_add-result c = omega (arith, one_if_most c.args.left, one_if_most c.args.right)
