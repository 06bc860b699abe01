-- What the text says is what its count says of the room, and that is what its code lines say.
use Rattle.std.proofs.Common.{length, ◌∙◌}
use Rattle.codes.proofs.WriteLaws.{read_done}
use Rattle.codes.proofs.read_list.Goals as goal

pub returns : goal.returns
returns c =
    let a = c.args in
    let lines = c.in_ok-n.lines.now in
    let e = c.in_ok-n.ensures (length a.out.now) ∙ (c.in_ok-check_count.ensures lines).2 in
    read_done a.text.now a.out.now lines c.write_keys.new.out c.in_ok-n.n e c.in_ok-check_codes.ensures c.write_keys.ensures
