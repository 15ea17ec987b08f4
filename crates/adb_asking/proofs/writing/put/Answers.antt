use Rattle.adb_outside.specs.declared.sink.Wrote.TheVariants.{All, Failed}
use Rattle.adb_asking.proofs.Putting.{puts_by}
use Rattle.adb_asking.proofs.writing.put.Goals as goal

pub returns-in-All : goal.returns-in-All
returns-in-All g c =
    puts_by g.K.Sink.steady g.K.Sink.faults g.K.Sink.written c.args.bytes.now c.args.sink.now c.write.new.self All c.in-All.ensures.told
    c.in-All.ensures.counts

pub returns-in-Failed : goal.returns-in-Failed
returns-in-Failed g c =
    puts_by g.K.Sink.steady g.K.Sink.faults g.K.Sink.written c.args.bytes.now c.args.sink.now c.write.new.self (Failed c.in-Failed.taken)
    c.in-Failed.ensures.told c.in-Failed.ensures.counts
