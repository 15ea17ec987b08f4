use Rattle.std.proofs.Common.{[], ap, sym, subst}
use Rattle.adb_server_log.specs.Log.{LogOf}
use Rattle.adb_desk.proofs.Staying.{fresh_recorded}
use Rattle.adb_desk.proofs.desk.Desk.new.Goals as goal

pub invariant_of-result : goal.invariant_of-result
invariant_of-result g c =
    fresh_recorded g.R.Recorder.stands c.new-2.result.recorder c.new.result (g.R.Recorder.told c.args.recorder)
    c.new-2.result.is c.new.ensures
    c.requires.fresh.1 (ap (λ (l : LogOf g.row.R.Denot). l.is) c.new-2.ensures)
    (subst (λ (l : LogOf g.row.R.Denot). g.R.Recorder.stands l.recorder []) (sym c.new-2.ensures) c.requires.stands)
