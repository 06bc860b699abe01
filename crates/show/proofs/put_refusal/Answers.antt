-- Five writes, one where the last ended: their texts together are the line. Room is counted from the most digits a number can have.
use native.Mathlib.Omega.{arith}
use mathlib.Core.List.{[], ◌∷◌, ◌++◌}
use lib.ListN.{length-append}
use Rattle.octets.proofs.PutLaws.{wrote_more}
use Rattle.show.specs.Decimal.{decimal}
use Rattle.show.specs.Refusal.{refused_word, refusal_line}
use Rattle.show.proofs.DecimalLaws.{decimal_length}
use Rattle.show.proofs.put_refusal.Goals as goal

pub put_decimal-b-requires : goal.put_decimal-b-requires
put_decimal-b-requires c = omega (arith, c.requires, c.put-a.ensures.ends, c.put-a.auto, decimal_length 4 c.args.number (omega (arith, c.ranges.number.fits)))

pub put-c-requires : goal.put-c-requires
put-c-requires c = omega (arith, c.requires, c.put-a.ensures.ends, c.put-a.auto, c.put_decimal-b.ensures.ends, c.put_decimal-b.auto, decimal_length 4 c.args.number (omega (arith, c.ranges.number.fits)))

pub put_decimal-d-requires : goal.put_decimal-d-requires
put_decimal-d-requires c = omega (
  arith,
  c.requires,
  c.put-a.ensures.ends,
  c.put-a.auto,
  c.put_decimal-b.ensures.ends,
  c.put_decimal-b.auto,
  c.put-c.ensures.ends,
  c.put-c.auto,
  decimal_length 4 c.args.number (omega (arith, c.ranges.number.fits)),
  decimal_length 9 c.args.place (omega (arith, c.ranges.place.fits)),
)

pub put-requires : goal.put-requires
put-requires c = omega (
  arith,
  c.requires,
  c.put-a.ensures.ends,
  c.put-a.auto,
  c.put_decimal-b.ensures.ends,
  c.put_decimal-b.auto,
  c.put-c.ensures.ends,
  c.put-c.auto,
  c.put_decimal-d.ensures.ends,
  c.put_decimal-d.auto,
  decimal_length 4 c.args.number (omega (arith, c.ranges.number.fits)),
  decimal_length 9 c.args.place (omega (arith, c.ranges.place.fits)),
)

pub returns : goal.returns
unfolding refusal_line
returns c = let dn = decimal_length 4 c.args.number (omega (arith, c.ranges.number.fits)) in
    let dp = decimal_length 9 c.args.place (omega (arith, c.ranges.place.fits)) in
    let m = decimal c.args.number in
    let p = decimal c.args.place in
    let n₁ = length-append refused_word m in
    let n₂ = length-append (refused_word ++ m) (32 ∷ []) in
    let n₃ = length-append (refused_word ++ m ++ (32 ∷ [])) p in
    wrote_more (wrote_more (wrote_more (wrote_more c.put-a.ensures c.put_decimal-b.ensures (omega (arith, c.requires))) c.put-c.ensures (omega (arith, c.requires)))
    c.put_decimal-d.ensures (omega (arith, c.requires))) c.put.ensures (omega (arith, c.requires))
