use Rattle.adb_remote.proofs.Pieces.{turn_bytes, turn_end}
use Rattle.adb_remote.proofs.turning.turn.Goals as goal

pub returns-in-Bytes : goal.returns-in-Bytes
returns-in-Bytes g c =
    turn_bytes g.I.PortIn.steady g.I.PortIn.faults g.I.PortIn.left g.O.PortOut.steady _ _ _ c.args.input.now
    c.read.new.self c.args.reading.now
    c.in-Bytes.n c.read.new.into c.args.output.now c.take_piece.new.output c.take_piece.new.reading
    c.take_piece.result c.in-Bytes.ensures.told
    c.in-Bytes.ensures.counts c.take_piece.ensures

pub returns-in-End : goal.returns-in-End
returns-in-End g c =
    turn_end g.I.PortIn.steady g.I.PortIn.faults g.I.PortIn.left g.O.PortOut.steady _ _ _ c.args.input.now c.read.new.self
    c.args.reading.now c.read.new.into c.args.output.now c.count.result c.count.ensures c.in-End.ensures.told c.in-End.ensures.counts
