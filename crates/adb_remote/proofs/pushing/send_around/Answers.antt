use Rattle.adb_sync.specs.Chunk.{chunk_bytes}
use Rattle.adb_remote.proofs.Writes.{around_sent, around_stopped}
use Rattle.adb_remote.proofs.pushing.send_around.Goals as goal

pub returns-in-Err : goal.returns-in-Err
returns-in-Err g c =
    around_stopped _ _ c.args.held (chunk_bytes c.args.bytes.now) c.args.end.now c.args.output.now
    c.send_chunks.new.output c.in-Err.error c.in-Err.ensures

pub returns : goal.returns
returns g c =
    around_sent _ _ c.args.held (chunk_bytes c.args.bytes.now) c.args.end.now c.send_chunks.new.held c.args.output.now
    c.send_chunks.new.output
    c.send_both.new.output c.send_both.result c.in_default.ensures c.send_both.ensures
