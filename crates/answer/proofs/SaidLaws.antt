-- The documents' terms tell the code's answers apart: each reason is found again from its number.
use mathlib.Core.Path.{◌≡◌, refl, sym, ap, ap₂, ◌∙◌}
use mathlib.Core.Bool.{cond}
use Prim.Native.Nat.{ℕ}
use native.Mathlib.Omega.{arith}
use lib.Dec.{eqb}
use Rattle.std.specs.Prelude.{Result, Ok, Err}
use Rattle.answer.specs.declared.Reason.{Reason}
use Rattle.answer.specs.declared.Reason.TheVariants as reason
use Rattle.answer.specs.declared.Refusal.{Refusal}
use Rattle.answer.specs.declared.Verdict.{Verdict}
use Rattle.answer.specs.declared.Verdict.TheVariants.{Present, Absent}
use Rattle.answer.specs.Answer as answer
use Rattle.answer.specs.Said.{number_of, said, said_verdict, number_of_verdict, packed_by}
use Rattle.answer.specs.Tells.{AnswersTell}

-- the reason of a number of the table
reason_of : ℕ → Reason
reason_of n =
    cond (eqb n 1) reason.Size (
    cond (eqb n 2) reason.NoKeys (
    cond (eqb n 3) reason.Ragged (
    cond (eqb n 4) reason.TooMany (
    cond (eqb n 5) reason.NotAscending (
    cond (eqb n 6) reason.TooShort (
    cond (eqb n 7) reason.Form (
    cond (eqb n 8) reason.ChildAtFoot (
    cond (eqb n 9) reason.KeyAbove (
    cond (eqb n 10) reason.OtherDigest (
    cond (eqb n 11) reason.NoContradiction (
    cond (eqb n 12) reason.Head (
    cond (eqb n 13) reason.NotACode (
    cond (eqb n 14) reason.Lines (
    cond (eqb n 16) reason.MoreCodes (
    reason.UnknownProfile)))))))))))))))

reason_of_number : (r : Reason) → reason_of (number_of r) ≡ r
unfolding reason_of
reason_of_number reason.Size = refl
reason_of_number reason.NoKeys = refl
reason_of_number reason.Ragged = refl
reason_of_number reason.TooMany = refl
reason_of_number reason.NotAscending = refl
reason_of_number reason.TooShort = refl
reason_of_number reason.Form = refl
reason_of_number reason.ChildAtFoot = refl
reason_of_number reason.KeyAbove = refl
reason_of_number reason.OtherDigest = refl
reason_of_number reason.NoContradiction = refl
reason_of_number reason.Head = refl
reason_of_number reason.NotACode = refl
reason_of_number reason.Lines = refl
reason_of_number reason.MoreCodes = refl
reason_of_number reason.UnknownProfile = refl

pub same_refusal : (a b : Refusal) → number_of a.reason ≡ number_of b.reason → a.place ≡ b.place → a ≡ b
same_refusal a b e f =
    let g : a.reason ≡ b.reason = sym (reason_of_number a.reason) ∙ ap reason_of e ∙ reason_of_number b.reason in
    ap₂ (λ (r : Reason) (p : ℕ). record { reason = r; place = p }) g f

said_tells : (a b : Result ℕ Refusal) → said a ≡ said b → a ≡ b
said_tells (Ok n) (Ok m) e = ap Ok (ap answer.value e)
said_tells (Ok n) (Err s) e = cc
said_tells (Err r) (Ok m) e = cc
said_tells (Err r) (Err s) e = ap Err (same_refusal r s (ap answer.number e) (ap answer.value e))

verdict_tells : (a b : Result Verdict Refusal) → said_verdict a ≡ said_verdict b → a ≡ b
verdict_tells (Ok Present) (Ok Present) e = refl
verdict_tells (Ok Present) (Ok Absent) e = cc
verdict_tells (Ok Present) (Err s) e = cc
verdict_tells (Ok Absent) (Ok Present) e = cc
verdict_tells (Ok Absent) (Ok Absent) e = refl
verdict_tells (Ok Absent) (Err s) e = cc
verdict_tells (Err r) (Ok Present) e = cc
verdict_tells (Err r) (Ok Absent) e = cc
verdict_tells (Err r) (Err s) e = ap Err (same_refusal r s (ap answer.verdict_number e) (ap answer.verdict_value e))

pub answers_tell : AnswersTell
answers_tell = record { answers = said_tells; verdicts = verdict_tells }

-- the one number of an answer, and of a verdict, is that of what it says
pub said_packed : (r : Result ℕ Refusal) → packed_by (λ n. n) r ≡ answer.packed (said r)
said_packed (Ok n) = omega arith
said_packed (Err r) = refl

pub verdict_packed : (r : Result Verdict Refusal) → packed_by number_of_verdict r ≡ answer.verdict_packed (said_verdict r)
verdict_packed (Ok Present) = refl
verdict_packed (Ok Absent) = refl
verdict_packed (Err r) = refl
