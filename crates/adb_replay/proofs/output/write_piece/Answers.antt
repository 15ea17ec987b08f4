use Rattle.adb_replay.proofs.Outputs.{goes_out, goes_out_in_part}
use Rattle.adb_replay.proofs.output.write_piece.Goals as goal

pub returns-in-All-clause-out : goal.returns-in-All-clause-out
returns-in-All-clause-out g c = λ had text k. goes_out had text (g.K.Sink.written c.args.sink.now, c.args.piece.now) _
    k c.in-All.ensures.told

pub returns-in-Failed-clause-out : goal.returns-in-Failed-clause-out
returns-in-Failed-clause-out g c = λ had text k.
    goes_out_in_part had text c.in-Failed.taken (g.K.Sink.written c.args.sink.now, c.args.piece.now) _ k c.in-Failed.ensures.told
