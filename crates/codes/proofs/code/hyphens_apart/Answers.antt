-- No two neighbours are hyphens exactly if hyphens are apart.
use Rattle.std.proofs.Common.{rules, ◌∙◌, ap, tests, not}
use Rattle.codes.specs.Code.{hyphen}
use Rattle.std.proofs.lemmas.Iterator.Search.{any_from_yields_List}
use Rattle.codes.proofs.CodeLaws.{double, YieldsList-from_pairs, apart_is}
use Rattle.codes.proofs.code.hyphens_apart.Goals as goal

pub returns : goal.returns
unfolding double hyphen
returns c = ap not (any_from_yields_List double _ _ _ c.any.ensures.ran (YieldsList-from_pairs c.args.s.now (cc) (cc)) (λ x b q k. search (rules, tests))) ∙ apart_is c.args.s.now
