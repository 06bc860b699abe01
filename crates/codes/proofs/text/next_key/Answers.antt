-- A line that is a code has twenty octets at most.
use Rattle.std.proofs.Common.{sym, ◌∙◌}
use Rattle.codes.proofs.TextLaws.{code_parts}
use Rattle.codes.proofs.text.next_key.Goals as goal

pub key_of-key-requires : goal.key_of-key-requires
key_of-key-requires c = (code_parts _ (sym c.is_code.ensures ∙ c.if-not-is_code.false)).few
