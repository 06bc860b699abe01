-- The message's whole blocks, then the last blocks, are the blocks of the padded message.
use Rattle.std.proofs.Common.{◌∙◌, arith}
use Rattle.sha256.specs.Fips180.{zeros, H0}
use Rattle.sha256.proofs.BlockLaws.{two_parts}
use Rattle.sha256.proofs.sha256.Goals as goal

pub last_blocks-end-requires : goal.last_blocks-end-requires
unfolding zeros
last_blocks-end-requires c = omega arith

pub returns : goal.returns
unfolding H0
returns c =
    c.digest.ensures
    ∙ two_parts c.args.msg.now _ c.as_chunks.ensures.front c.as_chunks.ensures.back c.last_blocks-end.ensures c.as_chunks-2.ensures.front
    c.blocks-h.ensures c.blocks-2.ensures
