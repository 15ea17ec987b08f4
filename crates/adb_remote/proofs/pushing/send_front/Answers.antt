use Rattle.std.proofs.lemmas.Result.{err_from_is_err_and}
use Rattle.adb_sync.specs.Chunk.{left_from}
use Rattle.adb_remote.proofs.Writes.{part_starved, sends_stopped}
use Rattle.adb_remote.proofs.pushing.send_front.Goals as goal

pub returns-in-Err-clause-sends : goal.returns-in-Err-clause-sends
returns-in-Err-clause-sends g c =
    sends_stopped _ _ c.args.held.now (left_from c.args.chunk.now c.args.bytes.now) c.args.output.now
    c.send_full.new.output c.in-Err.error c.in-Err.ensures

pub returns-in_err-gather-clause-sends : goal.returns-in_err-gather-clause-sends
returns-in_err-gather-clause-sends g c =
    let passed = err_from_is_err_and c.from_residual.result c.from_residual.ensures.1 in
    rw (passed.1, passed.2)
    (part_starved _ _ c.args.held.now c.send_full.new.held c.args.output.now c.send_full.new.output c.in_default.ensures
    (left_from c.args.chunk.now c.args.bytes.now))
