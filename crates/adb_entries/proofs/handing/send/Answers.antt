use Rattle.std.proofs.Common.{◌≡◌, Option, sym, subst}
use Rattle.adb_capture.specs.declared.entry.Entry.{Entry}
use Rattle.adb_history.specs.Drained.{send_on}
use Rattle.adb_history.specs.Kept.{IsLawful}
use Rattle.adb_history.specs.Machine.{state}
use Rattle.adb_entries.specs.Machine.{after_out}
use Rattle.adb_entries.proofs.HandOuts.{sends}
use Rattle.adb_entries.proofs.handing.send.Goals as goal

pub returns-in-Ok-clause-sent : goal.returns-in-Ok-clause-sent
returns-in-Ok-clause-sent c h lawful =
    let row = (state h).links c.args.link in
    let given = (c.in-Ok.ensures.sent h lawful).1 in
    let made = sends h c.args.hub.now c.send.new.self lawful c.args.link row c.in-Ok.handed given in
    subst (λ (out : Option Entry). (out ≡ send_on c.args.link row) × IsLawful c.send.new.self (after_out out h))
    (sym c.send_of.ensures) made
