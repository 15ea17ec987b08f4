use Rattle.adb_top.proofs.Promises.{runs_alone}
use Rattle.adb_top.proofs.alone.run_alone.Goals as goal

pub returns : goal.returns
returns g c =
    runs_alone c.args.words.now c.say_command.result _ _ _ c.args.source.now c.run_command-end.new.source
    c.args.sink.now c.run_command-end.new.sink
    c.args.note.now c.say_command.new.note c.run_command-end.result c.run_command-end.ensures.leaves c.run_command-end.ensures.reads
    c.run_command-end.ensures.writes c.say_command.ensures c.run_command-end.ensures.promised
