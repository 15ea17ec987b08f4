use Rattle.adb_asking.proofs.Calls.{called_asked, called_not}
use Rattle.adb_tools.proofs.calling.call_tool.Goals as goal

pub returns-in-Ok : goal.returns-in-Ok
returns-in-Ok g c =
    called_asked _ _ _ _ _ c.args.source.now c.make_job.new.source c.in-Ok.job c.args.sink.now c.ask_at.new.sink c.args.note.now
    c.ask_at.new.note c.args.yard.now c.ask_at.new.yard c.ask_at.result c.in-Ok.ensures c.ask_at.ensures

pub returns-in-Err : goal.returns-in-Err
returns-in-Err g c =
    rw c.failed_input.ensures
    (called_not _ _ _ _ _ c.args.source.now c.make_job.new.source c.in-Err.error c.args.sink.now c.args.note.now
    c.args.yard.now c.in-Err.ensures)
