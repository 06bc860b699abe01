-- `all` is the library's test of every octet.
use Rattle.std.proofs.Common.{refl, rules}
use Rattle.std.proofs.lemmas.List.Recursion.{and_is}
use Rattle.codes.specs.Code.{all, digit, within}
use Rattle.codes.proofs.count.all_digits.Goals as goal

pub returns : goal.returns
unfolding all digit within
returns c = and_is (all digit) digit refl (λ _ _. refl) c.args.s.now 0 _ (search rules) (search rules)
