use Rattle.adb_asking.proofs.Putting.{puts_stopped, puts_then}
use Rattle.adb_asking.proofs.writing.put_both.Goals as goal

pub returns-then-not-put : goal.returns-then-not-put
returns-then-not-put g c =
    puts_stopped _ _ _ c.args.first.now c.args.second.now c.args.sink.now c.args.sink.now _ (rw c.if-not-put.true at c.put.ensures)

pub returns : goal.returns
returns g c =
    puts_then _ _ _ c.args.first.now c.args.second.now c.args.sink.now _ _ _ (rw c.if-not-put.false at c.put.ensures) c.put-2.ensures
