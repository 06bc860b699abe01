-- The code's `Profile`: the number of each, and what a caller's number names.
use Rattle.std.specs.Prelude.{◌≡◌, false, ℕ, Result, Ok, Err}
use Rattle.answer.specs.declared.Reason.TheVariants.{UnknownProfile}
use Rattle.answer.specs.declared.Refusal.{Refusal}
use Rattle.answer.specs.Said.{refusal}
use Rattle.profile.specs.declared.Profile.{Profile}
use Rattle.profile.specs.declared.Profile.TheVariants.{Full, Drill}
use Rattle.profile.specs.Profile.{full, drill, known}

abbrev pub number_of_profile : Profile → ℕ
number_of_profile Full = full
number_of_profile Drill = drill

-- the profile of that number, or 17 at 0 where there is none
abbrev pub Names : ℕ → Result Profile Refusal → Type 0
Names n (Ok p) = n ≡ number_of_profile p
Names n (Err r) = (known n ≡ false) × (r ≡ refusal UnknownProfile 0)
