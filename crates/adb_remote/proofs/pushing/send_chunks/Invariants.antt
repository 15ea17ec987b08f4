use Rattle.std.proofs.Common.{length, ◌++◌}
use Rattle.adb_sync.specs.Chunk.{HasFront, IsWithin, chunk_bytes, left_from}
use Rattle.adb_remote.specs.Sending.{SendsPart, seen}
use Rattle.adb_remote.proofs.pushing.send_chunks.Given as goal

abbrev pub invariant-loop-chunk : goal.invariant-loop-chunk
invariant-loop-chunk g l = record {
  within : IsWithin l.chunk l.bytes;
  front : HasFront l.chunk l.bytes;
  sends : SendsPart g.O.PortOut.steady (seen g.O.PortOut.faults g.O.PortOut.written g.O.PortOut.closed)
      (l.fn.held ++ chunk_bytes l.fn.bytes)
      (l.held ++ left_from l.chunk l.bytes) l.fn.output l.output;
}

abbrev pub decreases-loop-chunk : goal.decreases-loop-chunk
decreases-loop-chunk g l = length (left_from l.chunk l.bytes)
