-- Two copies into zeros and one store; what they leave between 0x80 and the length is the padding's zeros.
use Rattle.std.proofs.Common.{refl, ◌∙◌, arith}
use Rattle.sha256.proofs.WordLaws.{octets_bytes}
use Rattle.sha256.proofs.PaddingLaws.{last_written}
use Rattle.sha256.proofs.padding.last_blocks.Goals as goal

pub returns : goal.returns
returns c =
    let a = c.args in
    last_written a.rest.now a.len a.n 128 _ (omega arith) c.requires.2 c.copy_from_slice.ensures.after refl
    (c.copy_from_slice-2.ensures.after ∙ c.to_be_bytes.ensures ∙ octets_bytes 8 _)
