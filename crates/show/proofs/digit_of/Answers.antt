-- The definition's test is the code's.
use borrow.Author.Tests.{lt-ltb, le-ltb}
use Rattle.show.specs.Hex.{hex_digit}
use Rattle.show.proofs.digit_of.Goals as goal

pub returns-then-n-lt10 : goal.returns-then-n-lt10
unfolding hex_digit
returns-then-n-lt10 c = rw (lt-ltb c.args.n 10 c.if-n-lt10.true)

pub returns-else-n-lt10 : goal.returns-else-n-lt10
unfolding hex_digit
returns-else-n-lt10 c = rw (le-ltb c.args.n 10 c.if-n-lt10.false)
