-- A number's digits are those of a tenth of it and then the last (`decimal_more`), written one after the other. The number falls.
use Prim.Native.Nat.{ℕ, ◌+◌, ◌/◌, ◌≤◌}
use mathlib.Core.Path.{◌≡◌, ap, ◌∙◌}
use native.Mathlib.Omega.{arith}
use lib.ListN.{length, length-append}
use Rattle.octets.proofs.PutLaws.{wrote_more}
use Rattle.show.specs.Decimal.{decimal}
use Rattle.show.proofs.DecimalLaws.{decimal_one, decimal_more}
use Rattle.show.proofs.+put_decimal.Goals as goal

fewer : (n : ℕ) → 10 ≤ n → length (decimal n) ≡ length (decimal (n / 10)) + 1
fewer n h = rw (decimal_more n h) (length-append (decimal (n / 10)) _)

pub put-requires : goal.put-requires
put-requires t c = let n = c.args.n in omega (arith, c.requires, ap length (decimal_one n c.if-n-lt10.true))

pub shape_of-out-then-n-lt10 : goal.shape_of-out-then-n-lt10
shape_of-out-then-n-lt10 t c = c.put.auto.out

pub returns-then-n-lt10 : goal.returns-then-n-lt10
returns-then-n-lt10 t c = let n = c.args.n in rw (decimal_one n c.if-n-lt10.true) c.put.ensures

pub put_decimal-p-requires : goal.put_decimal-p-requires
put_decimal-p-requires t c = let n = c.args.n in (omega (arith, c.requires, c.if-n-lt10.false), omega (arith, c.requires, fewer n c.if-n-lt10.false))

pub put-requires-2 : goal.put-requires-2
put-requires-2 t c = let n = c.args.n in omega (arith, c.requires, c.put_decimal-p.ensures.ends, c.put_decimal-p.auto, fewer n c.if-n-lt10.false)

pub shape_of-out : goal.shape_of-out
shape_of-out t c = c.put-2.auto.out ∙ c.put_decimal-p.auto.out

pub returns : goal.returns
returns t c = let n = c.args.n in rw (decimal_more n c.if-n-lt10.false) (wrote_more c.put_decimal-p.ensures c.put-2.ensures (omega (arith, c.requires, fewer n c.if-n-lt10.false)))
