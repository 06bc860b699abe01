-- Document 01's verdict on an attestation: what it shows, or a refusal's number and place.
use Rattle.std.specs.Prelude.{ℕ}

pub data Verdict : Type 0 where
  Present : Verdict
  Absent : Verdict
  Refused : ℕ → ℕ → Verdict
