use Rattle.adb_asking.specs.Telling.{seen}
use Rattle.adb_serving.proofs.Live.{serve_starved}
use Rattle.adb_serving.proofs.serving.serve_live.Goals as goal

pub returns-in_default-clause-serves : goal.returns-in_default-clause-serves
returns-in_default-clause-serves g c asked is =
    serve_starved (seen g.N.Sink.steady g.N.Sink.faults g.N.Sink.written) c.args.note.now c.say_out_of_memory.new.note
    c.say_out_of_memory.result
    c.say_out_of_memory.ensures.status c.say_out_of_memory.ensures.told c.say_out_of_memory.ensures.counts asked.port

pub returns-in_default-begin_record-clause-serves : goal.returns-in_default-begin_record-clause-serves
returns-in_default-begin_record-clause-serves g c asked is =
    serve_starved (seen g.N.Sink.steady g.N.Sink.faults g.N.Sink.written) c.args.note.now
    c.say_out_of_memory-in_default-begin_record.new.note
    c.say_out_of_memory-in_default-begin_record.result c.say_out_of_memory-in_default-begin_record.ensures.status
    c.say_out_of_memory-in_default-begin_record.ensures.told c.say_out_of_memory-in_default-begin_record.ensures.counts asked.port
