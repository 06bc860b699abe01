-- `all` is the library's test of every octet.
use Rattle.std.proofs.Common.{refl, rules}
use Rattle.std.proofs.lemmas.List.Recursion.{and_is}
use Rattle.codes.specs.Code.{all, character}
use Rattle.codes.proofs.code.all_characters.Goals as goal

pub returns : goal.returns
unfolding all
returns c = and_is (all character) character refl (λ _ _. refl) c.args.s.now 0 _ (search rules) (search rules)
