use Rattle.adb_outside.specs.declared.sink.Wrote.TheVariants.{All, Failed}
use Rattle.adb_remote.proofs.Writes.{sends_by}
use Rattle.adb_remote.proofs.sending.send.Goals as goal

pub returns-in-All : goal.returns-in-All
returns-in-All g c =
    sends_by g.O.PortOut.steady g.O.PortOut.faults g.O.PortOut.written g.O.PortOut.closed c.args.bytes.now
    c.args.output.now c.write.new.self All
    c.in-All.ensures.told c.in-All.ensures.counts c.in-All.ensures.closed

pub returns-in-Failed : goal.returns-in-Failed
returns-in-Failed g c =
    sends_by g.O.PortOut.steady g.O.PortOut.faults g.O.PortOut.written g.O.PortOut.closed c.args.bytes.now
    c.args.output.now c.write.new.self
    (Failed c.in-Failed.taken) c.in-Failed.ensures.told c.in-Failed.ensures.counts c.in-Failed.ensures.closed
