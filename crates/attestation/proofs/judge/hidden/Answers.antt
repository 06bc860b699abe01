-- The three sides on which x can stand of k0.
use mathlib.Core.Path.{sym, ap, ◌∙◌}
use Rattle.octets.specs.Compared.{order_of}
use Rattle.attestation.proofs.JudgeLaws.{hidden_less, hidden_equal, hidden_greater}
use Rattle.attestation.proofs.judge.hidden.Goals as goal

pub returns-in-Less : goal.returns-in-Less
returns-in-Less c =
    hidden_less c.args.x.now c.args.att.octets.now c.args.att.formed c.key.ensures (sym c.compare.ensures ∙ ap order_of c.in-Less.is) c.left-l.ensures

pub returns-in-Equal : goal.returns-in-Equal
returns-in-Equal c =
    hidden_equal c.args.x.now c.args.att.octets.now c.args.att.formed c.key.ensures (sym c.compare.ensures ∙ ap order_of c.in-Equal.is)

pub returns-in-Greater : goal.returns-in-Greater
returns-in-Greater c =
    hidden_greater c.args.x.now c.args.att.octets.now c.args.att.formed c.key.ensures (sym c.compare.ensures ∙ ap order_of c.in-Greater.is) c.left-l.ensures c.behind-r.ensures
