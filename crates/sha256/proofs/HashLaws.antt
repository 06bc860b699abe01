-- The promise of `hash` case by case.
use Rattle.std.proofs.Common.{◌≡◌, ◌<◌, ◌≤◌, length, refl, sym, ◌∙◌, le-ltb, lt-ltb, eq-eqb, ne_eqb}
use Rattle.answer.specs.Answer.{written, Done, Refused}
use Rattle.answer.specs.Refusals.{size}
use Rattle.octets.specs.Order.{Octets}
use Rattle.sha256.specs.Fips180.{sha256}
use Rattle.answer.proofs.WrittenLaws.{written_whole}
use Rattle.sha256.proofs.Fips180Laws.{sha256_length}
use Rattle.sha256.specs.Hash.{hash_answer, Hashed}

module _ (msg out : Octets) where
  pub refused_message : 65535 < length msg → Hashed msg out (Refused size 0) out
  unfolding hash_answer written
  refused_message h = record { answered = rw (lt-ltb 65535 (length msg) h); left = refl }

  module _ (h : length msg ≤ 65535) where
    pub refused_output : (length out ≡ 32 → ⊥) → Hashed msg out (Refused size 0) out
    unfolding hash_answer written
    refused_output f = record { answered = rw (le-ltb 65535 (length msg) h, ne_eqb (length out) 32 f); left = refl }

    pub accepted : {d o : Octets} → length out ≡ 32 → d ≡ sha256 msg → o ≡ d → Hashed msg out (Done (length msg)) o
    unfolding hash_answer
    accepted {d} {o} l e w =
        let n : length (sha256 msg) ≡ length out = sha256_length msg ∙ sym l in
        record { answered = rw (le-ltb 65535 (length msg) h, eq-eqb (length out) 32 l); left = w ∙ e ∙ sym (written_whole (length msg) (sha256 msg) out n) }
