-- The number's four octets behind 16 zeros are its key.
use mathlib.Core.Path.{◌∙◌}
use native.Mathlib.Omega.{arith}
use Rattle.contradiction.proofs.NumberLaws.{key_written}
use Rattle.contradiction.proofs.number.key.Goals as goal

pub returns : goal.returns
returns c = key_written c.args.n (omega arith) (c.copy_from_slice.ensures.after ∙ c.to_be_bytes.ensures)
