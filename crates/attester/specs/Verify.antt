-- The verdict on octets (01, "Verdict"), over any function H from records to labels and entries of w octets.
use Rattle.std.specs.Prelude.{cond, ◌&&◌, ℕ, eqb, length}
use Rattle.answer.specs.Refusals as refusal
use Rattle.octets.specs.Order.{Octets}
use Rattle.attester.specs.Path.{Path}
use Rattle.attester.specs.Verdict.{Judgement, refused, judge}
use Rattle.attester.specs.Form.{Form, formed, ended, spoilt, form}

-- 01, step 2: octets of the form are judged by their path; others are refused with 7, at the form's place
unfoldable pub judged : (Path → Judgement) → Form → Judgement
judged f (formed p) = f p
judged f (ended n) = refused refusal.form n
judged f (spoilt n) = refused refusal.form n

-- 01, steps 1 to 6: of the key x and the octets a, under the digest d
unfoldable pub verify : (Octets → Octets) → ℕ → Octets → Octets → Octets → Judgement
verify H w x d a =
    cond (eqb (length x) 20 && eqb (length d) 32) (judged (judge H x d) (form w a)) (refused refusal.size 0)
