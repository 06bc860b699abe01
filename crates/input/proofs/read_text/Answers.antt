-- What a read put behind the octets before it came behind them in the input too.
use Rattle.std.proofs.Common.{◌≡◌, ℕ, ◌+◌, ◌≤◌, List, ◌++◌, rules, length, take, length-take-le, sym, ap, ◌∙◌, subst}
use Rattle.std.specs.Io.KnownBytes.{Consumes}
use Rattle.std.proofs.KnownBytes.{Consumes-trans}
use Rattle.std.proofs.lemmas.List.{take-append-le}
use Rattle.std.proofs.Math.Seq.{take-append-add}
use borrow.Rule.Slice.PartMut.{put_mid, post_of}
use Rattle.input.proofs.read_text.Goals as goal

grown : (a k n : ℕ) (xs ys : List ℕ) → a ≤ length xs → n ≤ length ys → take (a + n) (put_mid a k xs ys) ≡ take a xs ++ take n ys
grown a k n xs ys h g =
    let more = rw (length-take-le a xs h) at (take-append-add (take a xs) (ys ++ post_of a k xs) n) in
    more ∙ ap (λ l. take a xs ++ l) (take-append-le n ys _ g)

pub loop-n-preserved : goal.loop-n-preserved
loop-n-preserved g c =
    let taken = Consumes-trans _ _ _ _ _ c.loop-n.invariant.2 c.in_ok-more.ensures.bytes.0 in
    (search rules, search rules, subst (Consumes _ _) (sym (grown _ _ _ _ _ c.loop-n.invariant.0 c.in_ok-more.ensures.bound.0)) taken)
