use Rattle.std.proofs.Common.{refl, sym, ◌∙◌}
use Rattle.adb_sync.specs.Chunk.{left_from}
use Rattle.adb_remote.specs.Sending.{seen}
use Rattle.adb_remote.proofs.Writes.{none_there, part_held, part_on, part_then}
use Rattle.adb_remote.proofs.pushing.send_chunks.Goals as goal

pub loop-chunk-preserved : goal.loop-chunk-preserved
loop-chunk-preserved g c = record {
  within = c.send_front.ensures.within;
  front = c.send_front.ensures.front;
  sends = part_on _ _ _ _ _ _ c.loop-chunk.invariant.sends _ _ c.in_default.ensures.sends;
}

pub returns-in-Err : goal.returns-in-Err
returns-in-Err g c = part_then _ _ _ _ _ _ c.loop-chunk.invariant.sends _ _ c.in-Err.ensures.sends

pub returns : goal.returns
returns g c =
    let left = left_from c.loop-chunk.chunk c.args.bytes.now in
    let none = none_there g.O.PortOut.steady (seen g.O.PortOut.faults g.O.PortOut.written g.O.PortOut.closed) left
    c.front.result.now c.front.ensures.some
    (sym c.is_empty.ensures ∙ c.loop-chunk-test.false) in
    part_held _ _ _ _ _ _ c.loop-chunk.invariant.sends c.loop-chunk.held left refl none
