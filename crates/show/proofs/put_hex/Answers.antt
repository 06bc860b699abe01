-- After i turns the digits of the first i octets are written.
use mathlib.Core.Path.{refl, ◌∙◌}
use Prim.Native.Nat.{◌≤◌, ◌+◌}
use native.Mathlib.Omega.{arith}
use lib.ListN.{length, take, length-take}
use lib.Seq.{take_all}
use Rattle.std.proofs.Common.{rules}
use Rattle.octets.proofs.PutLaws.{wrote_none, wrote_length}
use Rattle.show.specs.Hex.{hex}
use Rattle.show.proofs.HexLaws.{hex_turn, hex_length}
use Rattle.show.proofs.put_hex.Goals as goal

pub loop-octet-init : goal.loop-octet-init
unfolding hex
loop-octet-init c = (omega arith, refl, wrote_none c.args.out.now c.args.at)

pub digit_of-requires : goal.digit_of-requires
digit_of-requires c = search rules

pub put-p-requires : goal.put-p-requires
put-p-requires c = let l = c.loop-octet in let a = c.args in
    omega (arith, l.invariant.2.ends, hex_length (take l.octet-index a.src.now), length-take l.octet-index a.src.now, c.requires, c.loop-octet-test.true, l.invariant.1)

pub loop-octet-preserved : goal.loop-octet-preserved
loop-octet-preserved c = let l = c.loop-octet in let a = c.args in
    let f : l.p + 2 ≤ length l.out = omega (arith, l.invariant.2.ends, hex_length (take l.octet-index a.src.now), length-take l.octet-index a.src.now, c.requires, c.loop-octet-test.true, l.invariant.1) in (
      omega arith,
      wrote_length c.put-p.ensures f ∙ l.invariant.1,
      hex_turn a.src.now a.out.now l.out c.put-p.new.out a.at l.octet-index l.p c.put-p.result c.digit_of.result c.digit_of-in-loop-octet.result c.loop-octet-test.true c.requires c.digit_of.ensures c.digit_of-in-loop-octet.ensures l.invariant.2 c.put-p.ensures,
    )

pub shape_of-out : goal.shape_of-out
shape_of-out c = c.loop-octet.invariant.1

pub returns : goal.returns
returns c = let l = c.loop-octet in let a = c.args in rw (take_all l.octet-index a.src.now c.loop-octet-test.false) at l.invariant.2
