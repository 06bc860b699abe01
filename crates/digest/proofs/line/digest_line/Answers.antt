-- A refused text's line is its refusal's; an accepted one's keys have a digest (`digest_of_reading`), and the line shows it.
use mathlib.Core.Path.{refl, sym}
use native.Mathlib.Omega.{arith}
use Prim.Native.Nat.{ℕ}
use lib.ListN.{replicate, length-replicate}
use lib.Seq.{length-take-le}
use Rattle.answer.specs.Said.{number_of}
use Rattle.show.proofs.RefusalLaws.{refusal_length}
use Rattle.digest.proofs.LineLaws.{read_fits, line_refused, line_accepted, accepted_length}
use Rattle.digest.proofs.line.digest_line.Goals as goal

pub slice_bounds-keys-end : goal.slice_bounds-keys-end
slice_bounds-keys-end c = let r = rw c.in-Ok.is at c.read_list.ensures in
    omega (arith, read_fits _ _ _ _ r, c.read_list.auto)

pub slice_bounds-digest-end : goal.slice_bounds-digest-end
slice_bounds-digest-end c = let r = rw c.in-Ok.is at c.read_list.ensures in
    sym (length-take-le _ _ (omega (arith, read_fits _ _ _ _ r, c.read_list.auto)))

pub returns-in-Err : goal.returns-in-Err
returns-in-Err c =
    let r = rw c.in-Err.is at c.read_list.ensures in
    let m = number_of c.in-Err.refusal.reason in
    let p = c.in-Err.refusal.place in
    let t = line_refused c.args.text.now (replicate {A = ℕ} 60000 0) (length-replicate {A = ℕ} 60000 0) m p _ r in
    let w = rw c.number-in-Err.ensures at c.put_refusal.ensures in
    (rw (← t) w, omega (arith, w.ends, refusal_length m p (omega (arith, c.number-in-Err.ensures, c.number-in-Err.type_inv)) (omega arith)))

pub returns-in-Ok : goal.returns-in-Ok
returns-in-Ok c =
    let r = rw c.in-Ok.is at c.read_list.ensures in
    let n = c.in-Ok.n in
    let d = c.digest.new.out in
    let t = line_accepted c.args.text.now (replicate {A = ℕ} 60000 0) (length-replicate {A = ℕ} 60000 0) n _ (replicate {A = ℕ} 32 0) _ d r refl (rw c.number.ensures at c.digest.ensures) in
    (rw (← t) c.put_accepted.ensures, omega (arith, c.put_accepted.ensures.ends, accepted_length n d (omega arith) (omega (arith, c.digest.auto))))
