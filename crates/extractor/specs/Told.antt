-- What the extractor keeps of a verdict.
use Rattle.std.specs.Prelude.{ℕ}
use Rattle.answer.specs.Verdict.{Verdict, Present, Absent, Refused}

-- 01, "Extractor": Present or Absent; or "that refusal's number, with place 1 or 2 for which attestation"
unfoldable pub told : ℕ → Verdict → Verdict
told which Present = Present
told which Absent = Absent
told which (Refused m p) = Refused m which
