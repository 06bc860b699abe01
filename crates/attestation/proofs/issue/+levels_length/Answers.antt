-- What a level adds, and what the path where the search goes on takes.
use native.Mathlib.Omega.{arith}
use Rattle.attestation.proofs.IssueLaws.{bare, path_short, levels_length_on}
use Rattle.attestation.proofs.issue.+levels_length.Goals as goal

pub overflow_add-result-in-Some : goal.overflow_add-result-in-Some
overflow_add-result-in-Some t c = omega (arith, c.child_bit.ensures.1, c.levels_length.ensures bare, path_short c.in-Some.on.x.now c.in-Some.on.keys.now c.in-Some.on.keyed bare)

pub returns-in-Some : goal.returns-in-Some
returns-in-Some t c =
    λ H. levels_length_on c.args.search H c.in-Some.on c.in-Some.ensures c.aside.ensures (c.child_bit.ensures.0 H) (c.levels_length.ensures H)
