-- No path has more than 32 keys, and so none where the search goes on.
use native.Mathlib.Omega.{arith}
use Rattle.attestation.proofs.IssueLaws.{bare, path_low}
use Rattle.attestation.proofs.issue.+levels.Goals as goal

pub overflow_add-result : goal.overflow_add-result
overflow_add-result t c =
    let on = c.in-Some.on in
    omega (arith, c.levels.ensures bare, path_low on.x.now on.keys.now on.keyed bare)
