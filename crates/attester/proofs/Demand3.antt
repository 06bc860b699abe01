-- Demand 3, over any function from records to labels of 32 octets, and any width: accepted paths pass steps 3 and 4 and hash to
-- the one digest, so the walk finds where they differ; and the verdict depends on nothing but the path.
use mathlib.Core.Path.{◌≡◌, sym, ap, ◌∙◌}
use Prim.Native.Nat.{ℕ}
use lib.ListN.{length}
use Rattle.octets.specs.Order.{Octets}
use Rattle.attester.specs.Record.{record_size}
use Rattle.attester.specs.Path.{Path, down}
use Rattle.attester.specs.Verdict.{Accepted, root_record, judge}
use Rattle.attester.specs.Form.{shown}
use Rattle.attester.specs.Verify.{verify}
use Rattle.attester.specs.Demand3.{Rebuilt, Demand3, VerdictsTellPaths}
use Rattle.attester.proofs.VerdictLaws.{judge_passed}
use Rattle.attester.proofs.VerifyLaws.{verify_accepted}
use Rattle.attester.proofs.RootLaws.{Clean, sized_down, root_length}
use Rattle.attester.proofs.WalkLaws.{walked}

-- what is known of the path that accepted octets show
record Shows (H : Octets → Octets) (w : ℕ) (x d a : Octets) (p : Path) : Type 0 where
  clean : Clean w x p
  hashes : H (root_record H x p) ≡ d
  answer : verify H w x d a ≡ judge H x d p

accepted_shows : (H : Octets → Octets) (w : ℕ) (x d a : Octets) → Accepted (verify H w x d a) → Shows H w x d a (shown w a)
unfolding shown
accepted_shows H w x d a h =
    let v = verify_accepted H w x d a h in
    let c = judge_passed H x d v.path (rw v.answer at h) in
    rw v.reads
    record {
      clean = record { sized = v.rendered.sized; open_foot = c.open_foot; faultless = c.faultless };
      hashes = c.hashes;
      answer = v.answer;
    }

pub demand_3 : (H : Octets → Octets) (w : ℕ) → Demand3 H w
demand_3 H w H_length x d a b g h differ =
    let s = accepted_shows H w x d a g in
    let t = accepted_shows H w x d b h in
    walked H H_length w x (shown w a) (shown w b) s.clean t.clean (s.hashes ∙ sym t.hashes) differ

pub verdicts_tell_paths : (H : Octets → Octets) (w : ℕ) → VerdictsTellPaths H w
verdicts_tell_paths H w x d a b g h differ same =
    differ ((accepted_shows H w x d a g).answer ∙ (ap (judge H x d) same ∙ sym (accepted_shows H w x d b h).answer))

-- a record that was rebuilt has a record's length
pub rebuilt_length : (H : Octets → Octets) → ((m : Octets) → length (H m) ≡ 32) → (w : ℕ) (x d a : Octets) → Accepted (verify H w x d a)
    → {i : ℕ} {r : Octets} → Rebuilt H x (shown w a) i r → length r ≡ record_size w
rebuilt_length H H_length w x d a h {i} {r} b =
    rw b.is (root_length H H_length w x (down i (shown w a)) (sized_down w i (shown w a) (accepted_shows H w x d a h).clean.sized))
