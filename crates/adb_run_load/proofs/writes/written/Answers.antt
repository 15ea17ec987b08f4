use Rattle.adb_run_load.proofs.SentUp.{wrote_piece}
use Rattle.adb_run_load.proofs.writes.written.Goals as goal

pub returns : goal.returns
returns c fed read =
    wrote_piece fed c.args.piece.now c.args.cutter.now c.feed-fed.new.self c.take_writes.new.cutter c.take_writes.result read
    (c.feed-fed.ensures.taken (c.ran_out.ensures c.if-ran_out.false)).stands c.take_writes.ensures.counted c.take_writes.ensures.taken
    c.take_writes.ensures.stands
