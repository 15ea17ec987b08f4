use Rattle.std.proofs.Common.{◌≡◌, Option, sym, subst}
use Rattle.adb_capture.specs.declared.entry.Entry.{Entry}
use Rattle.adb_history.specs.Drained.{put_to}
use Rattle.adb_history.specs.Kept.{IsLawful}
use Rattle.adb_history.specs.Machine.{state}
use Rattle.adb_entries.specs.Machine.{after_out}
use Rattle.adb_entries.proofs.HandOuts.{puts}
use Rattle.adb_entries.proofs.handing.put.Goals as goal

pub returns-in-Ok-clause-put : goal.returns-in-Ok-clause-put
returns-in-Ok-clause-put c h lawful =
    let row = (state h).clients c.args.client in
    let given = (c.in-Ok.ensures.put h lawful).1 in
    let made = puts h c.args.hub.now c.put.new.self lawful c.args.client (state h).devices row c.in-Ok.handed given in
    subst (λ (out : Option Entry). (out ≡ put_to (state h).devices c.args.client row) × IsLawful c.put.new.self (after_out out h))
    (sym c.put_of.ensures) made
