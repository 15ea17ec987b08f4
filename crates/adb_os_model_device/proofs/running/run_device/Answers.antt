use Rattle.adb_os_model_device.proofs.Turns.{goes_nowhere, goes_further, ends_behind}
use Rattle.adb_os_model_device.proofs.running.run_device.Goals as goal

pub loop-init : goal.loop-init
loop-init g c = (tt, tt, goes_nowhere c.args.daemon c.args.input.now c.args.output.now)

pub returns-in-Err : goal.returns-in-Err
returns-in-Err g c =
    ends_behind c.args.daemon c.loop.daemon c.args.input.now c.loop.input c.args.output.now c.loop.output c.loop.invariant.2
    c.turn.new.daemon c.in-Err.end c.turn.new.input c.turn.new.output c.in-Err.ensures

pub loop-preserved : goal.loop-preserved
loop-preserved g c = (
  tt,
  tt,
  goes_further c.args.daemon c.loop.daemon c.args.input.now c.loop.input c.args.output.now c.loop.output c.loop.invariant.2
      c.turn.new.daemon c.turn.new.input c.turn.new.output c.in_default.ensures,
)
