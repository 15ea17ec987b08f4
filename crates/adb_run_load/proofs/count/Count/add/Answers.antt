use Rattle.adb_run_load.proofs.Adding.{count_added}
use Rattle.adb_run_load.proofs.count.Count.add.Goals as goal

pub returns : goal.returns
returns c h legal counted =
    count_added c.args.entry.now h c.args.self.now _ legal counted c.in_ok-add.ensures c.in_ok-add-2.ensures c.saturating_add-self.ensures
