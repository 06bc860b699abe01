-- Each word's octets are written where those of the word before it end.
use Rattle.std.proofs.Common.{◌≡◌, ◌∷◌, [], sym, ◌∙◌, take_all, arith, rules}
use Rattle.std.proofs.lemmas.Slice.{overwrites}
use Rattle.sha256.specs.Fips180.{octets, digest}
use Rattle.sha256.proofs.WordLaws.{octets_bytes, word_written}
use Rattle.sha256.proofs.compress.digest.Goals as goal

pub loop-i-preserved : goal.loop-i-preserved
loop-i-preserved c =
    let l = c.loop-i in
    let h = c.args.h in
    record {
      full = search (rules, overwrites);
      front = word_written (h.a ∷ h.b ∷ h.c ∷ h.d ∷ h.e ∷ h.f ∷ h.g ∷ h.h ∷ []) l.i _ l.out _ (omega arith) (omega arith)
          (c.copy_from_slice.ensures.after ∙ c.to_be_bytes.ensures ∙ octets_bytes 4 _) l.invariant.front;
    }

pub returns : goal.returns
unfolding digest octets
returns c =
    let l = c.loop-i in
    let e : l.i ≡ 8 = omega arith in
    sym (take_all 32 l.out (omega arith)) ∙ (rw e at l.invariant.front)
