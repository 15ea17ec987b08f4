use Rattle.std.proofs.Common.{subst, Option}
use Rattle.adb_outside.specs.Tables.{at}
use Rattle.adb_hub_tables.specs.Tables.{state_of}
use Rattle.adb_hub_clients.specs.declared.entering.Way.{Way}
use Rattle.adb_hub_clients.specs.Entering.{Leads}
use Rattle.adb_hub_clients.proofs.Entered.{enters_with}
use Rattle.adb_hub_clients.proofs.entering.come.Goals as goal

pub returns-in-Some-clause-made : goal.returns-in-Some-clause-made
returns-in-Some-clause-made c =
    let tables = c.args.tables.now in
    let row = at c.args.port tables.forwards in
    let leads = subst (λ (way : Option Way). Leads way row tables.devices) c.in-Some.is c.in_ok-way.ensures in
    enters_with c.come_by.result c.in-Some.way row c.args.client (state_of tables) c.come_by.new.tables leads c.come_by.ensures.made
