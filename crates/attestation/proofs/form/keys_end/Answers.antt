-- Each end of the code is an end of the section: no octet, a number that may not stand there, too few octets, keys that are there.
use native.Mathlib.Omega.{arith}
use Prim.Native.Nat.{◌<◌}
use lib.ListN.{length}
use Rattle.std.proofs.Common.{rules}
use Rattle.tree.specs.Edition.{width}
use Rattle.attestation.proofs.KeysLaws.{keys_empty, keys_none, keys_many, keys_cut, keys_whole}
use Rattle.attestation.proofs.form.keys_end.Goals.{then-count-eq0-via-then-count-eq0, then-count-eq0-via-else-count-eq0+then-count-gt32}
use Rattle.attestation.proofs.form.keys_end.Goals as goal

pub returns-then-is_empty : goal.returns-then-is_empty
returns-then-is_empty c = rw c.at.ensures (keys_empty width c.args.att.now (search rules))

pub returns-then-count-eq0 : goal.returns-then-count-eq0
returns-then-count-eq0 c =
    let some : 0 < length c.args.att.now = search rules in
    rw c.at-then-count-eq0.ensures (elim c.then-count-eq0.branch [
      | then-count-eq0-via-then-count-eq0 w ↦ keys_none width c.args.att.now some (omega (arith, w.if-count-eq0.true))
      | then-count-eq0-via-else-count-eq0+then-count-gt32 w ↦ keys_many width c.args.att.now some (omega (arith, w.if-count-gt32.true))
    ])

pub returns-then-att-end : goal.returns-then-att-end
returns-then-att-end c =
    let some : 0 < length c.args.att.now = search rules in
    rw c.at-then-att-end.ensures (keys_cut width c.args.att.now (omega arith) (omega arith) (omega arith) (omega arith) c.if-att-end.true)

pub returns : goal.returns
returns c =
    let some : 0 < length c.args.att.now = search rules in
    keys_whole width c.args.att.now (omega arith) (omega arith) (omega arith) (omega arith) c.if-att-end.false
