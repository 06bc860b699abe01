-- Five writes, one where the last ended: their texts together are the line.
use native.Mathlib.Omega.{arith}
use mathlib.Core.List.{[], ◌∷◌, ◌++◌}
use lib.ListN.{length-append}
use Rattle.octets.proofs.PutLaws.{wrote_more}
use Rattle.show.specs.Decimal.{decimal}
use Rattle.show.specs.Hex.{hex}
use Rattle.show.proofs.DecimalLaws.{decimal_length}
use Rattle.show.proofs.HexLaws.{hex_length}
use Rattle.digest.specs.Line.{digest_word, accepted_line}
use Rattle.digest.proofs.line.put_accepted.Goals as goal

pub put_decimal-b-requires : goal.put_decimal-b-requires
put_decimal-b-requires c = omega (arith, c.requires, c.put-a.ensures.ends, c.put-a.auto, decimal_length 9 c.args.n (omega (arith, c.ranges.n.fits)))

pub put-c-requires : goal.put-c-requires
put-c-requires c = omega (arith, c.requires, c.put-a.ensures.ends, c.put-a.auto, c.put_decimal-b.ensures.ends, c.put_decimal-b.auto, decimal_length 9 c.args.n (omega (arith, c.ranges.n.fits)))

pub put_hex-d-requires : goal.put_hex-d-requires
put_hex-d-requires c = omega (
  arith,
  c.requires,
  c.well_formed,
  c.put-a.ensures.ends,
  c.put-a.auto,
  c.put_decimal-b.ensures.ends,
  c.put_decimal-b.auto,
  c.put-c.ensures.ends,
  c.put-c.auto,
  decimal_length 9 c.args.n (omega (arith, c.ranges.n.fits)),
)

pub put-requires : goal.put-requires
put-requires c = omega (
  arith,
  c.requires,
  c.well_formed,
  c.put-a.ensures.ends,
  c.put-a.auto,
  c.put_decimal-b.ensures.ends,
  c.put_decimal-b.auto,
  c.put-c.ensures.ends,
  c.put-c.auto,
  c.put_hex-d.ensures.ends,
  c.put_hex-d.auto,
  decimal_length 9 c.args.n (omega (arith, c.ranges.n.fits)),
  hex_length c.args.digest.now,
)

pub returns : goal.returns
unfolding accepted_line
returns c = let dn = decimal_length 9 c.args.n (omega (arith, c.ranges.n.fits)) in
    let dh = hex_length c.args.digest.now in
    let m = decimal c.args.n in
    let p = hex c.args.digest.now in
    let n₁ = length-append digest_word m in
    let n₂ = length-append (digest_word ++ m) (32 ∷ []) in
    let n₃ = length-append (digest_word ++ m ++ (32 ∷ [])) p in
    wrote_more (wrote_more (wrote_more (wrote_more c.put-a.ensures c.put_decimal-b.ensures (omega (arith, c.requires, c.well_formed))) c.put-c.ensures (omega (arith, c.requires, c.well_formed)))
    c.put_hex-d.ensures (omega (arith, c.requires, c.well_formed))) c.put.ensures (omega (arith, c.requires, c.well_formed))
