-- After i lines their keys are written, and those of the lines that are left make up the whole.
use Rattle.codes.proofs.AcceptedLaws.{accepted_codes}
use Rattle.codes.proofs.WriteLaws.{writing_start, writing_turn, writing_end}
use Rattle.codes.proofs.write.write_keys.Goals as goal

pub loop-i-init : goal.loop-i-init
loop-i-init c =
    let a = c.args in
    let h = accepted_codes a.n a.lines.now c.requires.accepted in
    writing_start a.n _ a.out.now a.lines.now h.0 h.1

pub loop-i-preserved : goal.loop-i-preserved
loop-i-preserved c =
    let l = c.loop-i in
    let f = rw c.unwrap.ensures at c.split_line.ensures in
    let w = rw (c.key_of.ensures, f.1) at c.put.ensures in
    writing_turn c.args.n _ c.args.out.now l.out l.rest.now l.i l.invariant c.loop-i-test.true c.put.new.out c.unwrap.result.1.now c.put.result c.requires.room w f.2

pub returns : goal.returns
returns c = writing_end c.loop-i.invariant c.loop-i-test.false
