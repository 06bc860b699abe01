-- The extractor (01, "Extractor"), over any function H from records to labels and entries of w octets.
use Rattle.std.specs.Prelude.{Bool, cond, ◌&&◌, ℕ, eqb, length}
use Rattle.std.proofs.Math.Option.{Option, none, some}
use Rattle.answer.specs.Refusals.{size, no_contradiction}
use Rattle.octets.specs.Order.{Octets}
use Rattle.attester.specs.Record.{record_size}
use Rattle.attester.specs.Verdict.{Judgement, present, absent}
use Rattle.attester.specs.Verdict as verdict
use Rattle.attester.specs.Form.{shown}
use Rattle.attester.specs.Verify.{verify}
use Rattle.attester.specs.Walk.{Found, walk}

-- the two records and the levels passed; or a refusal's number and place
pub data Extraction : Type 0 where
  extracted : Found → Extraction
  refused : ℕ → ℕ → Extraction

-- 01: where the verdicts differ, what the walk found; it always finds a level there (`Demand3`)
abbrev pub shows : Option Found → Extraction
shows (some f) = extracted f
shows none = refused no_contradiction 0

-- 01: "the first attestation's refusal; the second's; both the same verdict (11)"; "that refusal's number, with place 1 or 2 for
-- which attestation"
unfoldable pub contradiction : Judgement → Judgement → Option Found → Extraction
contradiction (verdict.refused m p) v f = refused m 1
contradiction present (verdict.refused m p) f = refused m 2
contradiction absent (verdict.refused m p) f = refused m 2
contradiction present present f = refused no_contradiction 0
contradiction absent absent f = refused no_contradiction 0
contradiction present absent f = shows f
contradiction absent present f = shows f

-- 01: "x, d or a buffer not of its size, the buffers exactly 85 octets (1)": whether the four lengths are right
unfoldable pub sized : ℕ → ℕ → ℕ → ℕ → ℕ → Bool
sized w x d n m = eqb x 20 && (eqb d 32 && (eqb n (record_size w) && eqb m (record_size w)))

-- 01: the sizes first, then the two verdicts; the buffers have n and m octets
unfoldable pub extract : (Octets → Octets) → ℕ → Octets → Octets → Octets → Octets → ℕ → ℕ → Extraction
extract H w x d a b n m =
    cond (sized w (length x) (length d) n m)
    (contradiction (verify H w x d a) (verify H w x d b) (walk H x (shown w a) (shown w b)))
    (refused size 0)
