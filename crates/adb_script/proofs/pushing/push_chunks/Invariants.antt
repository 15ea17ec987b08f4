use Rattle.std.proofs.Common.{◌≡◌, ◌++◌, length}
use Rattle.adb_sync.specs.Chunk.{chunk_bytes}
use Rattle.adb_script.proofs.pushing.push_chunks.Given as goal

abbrev pub invariant-loop-rest : goal.invariant-loop-rest
invariant-loop-rest l = l.text ++ chunk_bytes l.rest ≡ l.initial.text ++ chunk_bytes l.bytes

abbrev pub decreases-loop-rest : goal.decreases-loop-rest
decreases-loop-rest l = length l.rest
