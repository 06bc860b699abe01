-- What the drill answers, in the documents' terms; and what the code's answer says in them.
use Rattle.std.specs.Prelude.{◌≡◌, ℕ, Option, Some, Result, Ok, Err}
use Rattle.std.specs.Prelude as code
use Rattle.answer.specs.declared.Refusal.{Refusal}
use Rattle.answer.specs.Said.{number_of}

-- the number that was found, that there is none, or a refusal's number and place
pub data Outcome : Type 0 where
  Found : ℕ → Outcome
  None : Outcome
  Refused : ℕ → ℕ → Outcome

abbrev pub said_found : Result (Option ℕ) Refusal → Outcome
said_found (Ok (Some n)) = Found n
said_found (Ok code.None) = None
said_found (Err r) = Refused (number_of r.reason) r.place

-- no two answers of the code say the same; proved in `proofs/PackedLaws.antt`
abbrev pub OutcomesTell : Type 0
OutcomesTell = (a b : Result (Option ℕ) Refusal) → said_found a ≡ said_found b → a ≡ b
