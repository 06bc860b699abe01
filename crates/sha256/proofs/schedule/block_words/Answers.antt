-- The chunk t of the block is its word t.
use Rattle.std.proofs.Common.{◌≡◌, ◌*◌, ◌/◌, [], length, get_or, take, drop, ap, ◌∙◌, refl, arith, length-set}
use Rattle.std.specs.Int.{w32, from_be_bytes}
use Rattle.sha256.specs.Fips180.{M, schedule}
use Rattle.sha256.proofs.ChunkLaws.{chunk_at}
use Rattle.sha256.proofs.WordLaws.{word_at}
use Rattle.sha256.proofs.ScheduleLaws.{block_word_more}
use Rattle.sha256.proofs.schedule.block_words.Goals as goal

pub loop-t-init : goal.loop-t-init
unfolding schedule
loop-t-init c = record { full = refl; front = refl }

pub loop-t-preserved : goal.loop-t-preserved
loop-t-preserved c =
    let l = c.loop-t in
    let b = c.args.b.now in
    let i = rw c.as_chunks.ensures.front_len at c.loop-t-test.true in
    let o : get_or c.as_chunks.result.0.now l.t [] ≡ take 4 (drop (4 * l.t) b) = rw c.as_chunks.ensures.front (chunk_at 4 (length b / 4) l.t b i) in
    let v : c.from_be_bytes.result ≡ M b l.t = c.from_be_bytes.ensures ∙ ap (from_be_bytes w32) o ∙ word_at b l.t in
    record { full = simp length-set (omega arith); front = block_word_more b l.t l.w (omega arith) l.invariant.front (omega arith) v }
