-- Each outcome's lines are those of what the drill comes to (`LineLaws`).
use native.Mathlib.Omega.{arith}
use mathlib.Core.Path.{refl}
use mathlib.Core.List.{List}
use Prim.Native.Nat.{ℕ}
use lib.ListN.{replicate}
use Rattle.answer.specs.Said.{number_of}
use Rattle.show.proofs.RefusalLaws.{refusal_length}
use Rattle.drill.proofs.LineLaws.{record_lines_length, lines_found, lines_none, lines_refused}
use Rattle.drill.proofs.line.drill_lines.Goals as goal

-- the two buffers, before the drill
abbrev zeros : List ℕ
zeros = replicate 85 0

pub returns-in-Some : goal.returns-in-Some
returns-in-Some c =
    let t = lines_found c.args.text.now zeros zeros refl refl _ _ _ (rw (c.in-Ok.is, c.in-Some.is) at c.drill.ensures) in
    let n = record_lines_length c.drill.new.out1 c.drill.new.out2 (omega (arith, c.drill.auto)) (omega (arith, c.drill.auto)) in
    (rw (← t) c.put_records.ensures, omega (arith, c.put_records.ensures.ends))

pub returns-in-None : goal.returns-in-None
returns-in-None c =
    let t = lines_none c.args.text.now zeros zeros refl refl _ _ (rw (c.in-Ok.is, c.in-None.is) at c.drill.ensures) in
    (rw (← t) c.put.ensures, omega (arith, c.put.ensures.ends))

pub returns-in-Err : goal.returns-in-Err
returns-in-Err c =
    let m = number_of c.in-Err.refusal.reason in
    let p = c.in-Err.refusal.place in
    let t = lines_refused c.args.text.now zeros zeros refl refl m p _ _ (rw c.in-Err.is at c.drill.ensures) in
    let w = rw c.number.ensures at c.put_refusal.ensures in
    (rw (← t) w, omega (arith, w.ends, refusal_length m p (omega (arith, c.number.ensures, c.number.type_inv)) (omega arith)))
