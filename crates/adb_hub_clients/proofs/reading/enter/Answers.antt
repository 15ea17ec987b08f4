use Rattle.std.proofs.lemmas.Result.{on_ok_weaker, on_err_weaker}
use Rattle.std.proofs.Common.{sym}
use Rattle.adb_capture.specs.declared.entry.Entry.TheVariants.{Enter}
use Rattle.adb_hub_tables.specs.Tables.{state_of}
use Rattle.adb_hub_clients.proofs.Stepping.{sends_nothing, no_client_yet, makes, keeps}
use Rattle.adb_hub_clients.proofs.reading.enter.Goals as goal

pub come-requires-clause-fresh : goal.come-requires-clause-fresh
come-requires-clause-fresh c = no_client_yet (state_of c.args.tables.now) c.requires.reached c.args.client c.requires.next

pub returns-clause-made : goal.returns-clause-made
returns-clause-made c =
    let old = c.args.tables.now in
    on_ok_weaker c.come.result
    (makes (Enter c.args.client c.args.port) old c.come.new.tables _
    (sym ((sends_nothing (state_of old) c.requires.reached).enter c.args.client c.args.port)))
    c.come.ensures.made

pub returns-clause-kept : goal.returns-clause-kept
returns-clause-kept c = on_err_weaker c.come.result (keeps c.args.tables.now c.come.new.tables) c.come.ensures.kept
