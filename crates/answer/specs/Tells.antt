-- The documents' terms tell the code's answers apart: no two answers say the same. Proved in `proofs/SaidLaws.antt`.
use Rattle.std.specs.Prelude.{◌≡◌, ℕ, Result}
use Rattle.answer.specs.declared.Refusal.{Refusal}
use Rattle.answer.specs.declared.Verdict.{Verdict}
use Rattle.answer.specs.Said.{said, said_verdict}

pub record AnswersTell : Type 0 where
  pub answers : (a b : Result ℕ Refusal) → said a ≡ said b → a ≡ b
  pub verdicts : (a b : Result Verdict Refusal) → said_verdict a ≡ said_verdict b → a ≡ b
