-- The part from `at` on is src, and the rest stays.
use mathlib.Core.Path.{refl, ◌∙◌}
use native.Mathlib.Omega.{arith}
use lib.ListN.{length}
use Rattle.std.proofs.lemmas.Slice.{put_mid-paste}
use Rattle.octets.proofs.PutLaws.{put_paste}
use Rattle.octets.proofs.put.Goals as goal

pub returns : goal.returns
returns c =
    let src = c.args.src.now in record {
      ends = refl;
      left = put_mid-paste c.args.at _ c.args.out.now _ src (length src) c.copy_from_slice.ensures.after (omega arith) refl ∙ put_paste _ _ _;
    }
