-- Four writes, one where the last ended: their texts together are the two lines.
use native.Mathlib.Omega.{arith}
use mathlib.Core.List.{[], ◌∷◌, ◌++◌}
use lib.ListN.{length-append}
use Rattle.octets.proofs.PutLaws.{wrote_more}
use Rattle.show.specs.Hex.{hex}
use Rattle.show.proofs.HexLaws.{hex_length}
use Rattle.drill.specs.Line.{record_lines}
use Rattle.drill.proofs.line.put_records.Goals as goal

pub put-b-requires : goal.put-b-requires
put-b-requires c =
    omega (arith, c.requires, c.well_formed, c.put_hex-a.ensures.ends, c.put_hex-a.auto, hex_length c.args.first.now)

pub put_hex-c-requires : goal.put_hex-c-requires
put_hex-c-requires c =
    omega (
      arith,
      c.requires,
      c.well_formed,
      c.put_hex-a.ensures.ends,
      c.put_hex-a.auto,
      c.put-b.ensures.ends,
      c.put-b.auto,
      hex_length c.args.first.now,
    )

pub put-requires : goal.put-requires
put-requires c =
    omega (
      arith,
      c.requires,
      c.well_formed,
      c.put_hex-a.ensures.ends,
      c.put_hex-a.auto,
      c.put-b.ensures.ends,
      c.put-b.auto,
      c.put_hex-c.ensures.ends,
      c.put_hex-c.auto,
      hex_length c.args.first.now,
      hex_length c.args.second.now,
    )

pub returns : goal.returns
unfolding record_lines
returns c =
    let p = hex c.args.first.now in
    let q = hex c.args.second.now in
    let np = hex_length c.args.first.now in
    let nq = hex_length c.args.second.now in
    let n₁ = length-append p (10 ∷ []) in
    let n₂ = length-append (p ++ (10 ∷ [])) q in
    let line = wrote_more c.put_hex-a.ensures c.put-b.ensures (omega (arith, c.requires, c.well_formed)) in
    let both = wrote_more line c.put_hex-c.ensures (omega (arith, c.requires, c.well_formed)) in
    wrote_more both c.put.ensures (omega (arith, c.requires, c.well_formed))
