use Rattle.adb_asking.proofs.Calls.{asked_here, asked_nobody}
use Rattle.adb_tools.proofs.calling.ask_at.Goals as goal

pub returns-in-Here : goal.returns-in-Here
returns-in-Here g c =
    asked_here _ _ _ _ _ _ c.in-Here.input _ c.in-Here.output _ c.args.sink.now c.ask.new.sink c.args.note.now c.ask.new.note
    c.args.yard.now c.dial.new.self c.ask.result c.in-Here.ensures.counts c.in-Here.ensures.steady c.in-Here.ensures.answers.0 c.ask.ensures

pub returns-in-Failed : goal.returns-in-Failed
returns-in-Failed g c =
    asked_nobody _ _ _ _ c.args.sink.now c.args.note.now c.args.yard.now c.dial.new.self c.in-Failed.ensures.counts
