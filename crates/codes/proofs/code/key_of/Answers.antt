-- The octets stand in front of what is left of twenty zeros.
use Rattle.std.proofs.Common.{ℕ, length}
use Rattle.std.proofs.lemmas.List.{drop-replicate}
use Rattle.codes.specs.Code.{key_of}
use Rattle.codes.proofs.code.key_of.Goals as goal

pub returns : goal.returns
unfolding key_of
returns c = rw (c.copy_from_slice.ensures.after, drop-replicate {X = ℕ} (length c.args.s.now) 20 0)
