-- One case of the promise for each way out.
use Rattle.std.proofs.Common.{arith}
use Rattle.sha256.proofs.HashLaws.{refused_message, refused_output, accepted}
use Rattle.sha256.proofs.hash.Goals.{then-n-gt65535-via-then-n-gt65535, then-n-gt65535-via-else-n-gt65535+then-out-ne32}
use Rattle.sha256.proofs.hash.Goals as goal

pub returns-then-n-gt65535 : goal.returns-then-n-gt65535
returns-then-n-gt65535 c =
    let a = c.args in
    rw c.at.ensures (elim c.then-n-gt65535.branch [
      | then-n-gt65535-via-then-n-gt65535 w ↦ refused_message a.msg.now a.out.now w.if-n-gt65535.true
      | then-n-gt65535-via-else-n-gt65535+then-out-ne32 w ↦ refused_output a.msg.now a.out.now (omega arith) w.if-out-ne32.true
    ])

pub returns : goal.returns
returns c =
    let a = c.args in
    accepted a.msg.now a.out.now (omega arith) (omega arith) c.sha256.ensures c.copy_from_slice.ensures.after
