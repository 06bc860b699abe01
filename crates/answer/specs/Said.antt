-- What the code's answers say: the documents' number for each reason, and each answer in the documents' terms.
use Rattle.std.specs.Prelude.{ℕ, ◌+◌, ◌*◌, ◌^◌, Result, Ok, Err, Option, Some, None}
use Rattle.answer.specs.declared.Reason.{Reason}
use Rattle.answer.specs.declared.Reason.TheVariants as reason
use Rattle.answer.specs.declared.Refusal.{Refusal}
use Rattle.answer.specs.declared.Verdict.{Verdict}
use Rattle.answer.specs.declared.Verdict.TheVariants.{Present, Absent}
use Rattle.answer.specs.Answer.{Answer, Done, Refused, present_number, absent_number}
use Rattle.answer.specs.Verdict as verdict
use Rattle.answer.specs.Refusals as refusals

-- 01, "Numbers a caller can meet", and 02: each reason's number
abbrev pub number_of : Reason → ℕ
number_of reason.Size = refusals.size
number_of reason.NoKeys = refusals.no_keys
number_of reason.Ragged = refusals.ragged
number_of reason.TooMany = refusals.too_many
number_of reason.NotAscending = refusals.not_ascending
number_of reason.TooShort = refusals.too_short
number_of reason.Form = refusals.form
number_of reason.ChildAtFoot = refusals.child_at_foot
number_of reason.KeyAbove = refusals.key_above
number_of reason.OtherDigest = refusals.other_digest
number_of reason.NoContradiction = refusals.no_contradiction
number_of reason.Head = refusals.head
number_of reason.NotACode = refusals.not_a_code
number_of reason.Lines = refusals.lines
number_of reason.MoreCodes = refusals.more_codes
number_of reason.UnknownProfile = refusals.unknown_profile

-- the refusal for a reason, at a place
abbrev pub refusal : Reason → ℕ → Refusal
refusal r p = record { reason = r; place = p }

-- an answer that counts, or its refusal's number and place
abbrev pub said : Result ℕ Refusal → Answer
said (Ok n) = Done n
said (Err r) = Refused (number_of r.reason) r.place

-- a verdict, or its refusal's number and place
abbrev pub said_verdict : Result Verdict Refusal → verdict.Verdict
said_verdict (Ok Present) = verdict.Present
said_verdict (Ok Absent) = verdict.Absent
said_verdict (Err r) = verdict.Refused (number_of r.reason) r.place

-- the C face's one number of each: of a verdict,
abbrev pub number_of_verdict : Verdict → ℕ
number_of_verdict Present = present_number
number_of_verdict Absent = absent_number

-- of a number that was found, or that none was,
abbrev pub found_number : Option ℕ → ℕ
found_number (Some n) = n
found_number None = 2 ^ 32

-- of a refusal: its number in bits 48 to 63, its place in bits 0 to 31
abbrev pub refusal_number : Refusal → ℕ
refusal_number r = number_of r.reason * 2 ^ 48 + r.place

-- and of an answer, by its value's number
abbrev pub packed_by : {T : Type 0} → (T → ℕ) → Result T Refusal → ℕ
packed_by number (Ok v) = number v
packed_by number (Err r) = refusal_number r
