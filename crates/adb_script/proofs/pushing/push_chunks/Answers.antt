use Rattle.std.proofs.Common.{ℕ, ◌≢◌, ◌∙◌, ◌++◌, length, List, rules}
use Rattle.adb_sync.specs.Chunk.{chunk_bytes}
use Rattle.adb_script.proofs.Chunks.{further}
use Rattle.adb_script.proofs.pushing.push_chunks.Goals as goal

pub loop-rest-preserved : goal.loop-rest-preserved
loop-rest-preserved c =
    let rest : List ℕ = c.loop-rest.rest.now in
    let whole : List ℕ = c.args.text.now ++ chunk_bytes c.args.bytes.now in
    let some : length rest ≢ 0 = search (rules) in
    further c.loop-rest.text c.write_answer.new.out rest c.in_ok-chunk.chunk c.split_at.result.1.now whole c.min.result c.min.ensures some
    (c.in_ok-chunk.ensures ∙ c.split_at.ensures.front) c.split_at.ensures.back c.in_ok-write_answer.ensures.ok c.loop-rest.invariant
