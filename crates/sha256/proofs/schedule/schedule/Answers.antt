-- A store of W_t at t makes the first t + 1 words of the schedule of the first t.
use Rattle.std.proofs.Common.{arith, length-set}
use Rattle.sha256.proofs.ScheduleLaws.{next_word_more}
use Rattle.sha256.proofs.schedule.schedule.Goals as goal

pub loop-t-preserved : goal.loop-t-preserved
loop-t-preserved c =
    let l = c.loop-t in
    record {
      full = simp length-set (omega arith);
      front = next_word_more c.args.b.now l.t l.w (omega arith) l.invariant.front (omega arith) c.next_word.ensures;
    }
