use Rattle.std.proofs.Common.{ℕ, ◌++◌, ap, length, List, arith}
use Rattle.adb_sync.specs.Chunk.{chunk_bytes}
use Rattle.adb_script.specs.Pattern.{pattern}
use Rattle.adb_script.proofs.Chunks.{further_pattern}
use Rattle.adb_script.proofs.Patterns.{length_pattern}
use Rattle.adb_script.proofs.pushing.push_pattern.Goals as goal

pub write_answer-requires : goal.write_answer-requires
write_answer-requires c =
    omega (arith, ap (length {A = ℕ}) c.in_ok-chunk.ensures, length_pattern c.loop-done.done c.min-n.result, c.min-n.ensures)

pub loop-done-preserved : goal.loop-done-preserved
loop-done-preserved c =
    let whole : List ℕ = c.args.text.now ++ chunk_bytes (pattern 0 c.args.size) in (
      omega (arith, c.min-n.ensures, c.loop-done-test.true),
      further_pattern c.loop-done.text c.write_answer.new.out c.in_ok-chunk.chunk whole c.loop-done.done
          c.min-n.result c.args.size c.min-n.ensures
          (omega (arith, c.loop-done-test.true)) c.in_ok-chunk.ensures c.in_ok-write_answer.ensures.ok c.loop-done.invariant.1,
    )
