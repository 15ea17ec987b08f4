use Rattle.adb_os_model_device.proofs.Turns.{behind}
use Rattle.adb_os_model_device.proofs.running.turn.Goals as goal

pub returns : goal.returns
returns g c =
    behind c.args.daemon.now c.put_owed.new.daemon c.args.input.now c.args.input.now c.args.output.now c.put_owed.new.output
    (c.in_ok-put_owed.ensures.runs c.args.input.now) c.feed_next.new.daemon c.feed_next.new.input c.put_owed.new.output c.feed_next.result
    (c.feed_next.ensures c.put_owed.new.output)
