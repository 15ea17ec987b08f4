use Rattle.std.proofs.Common.{◌≡◌, rules, subst, arith}
use Rattle.adb_history.specs.Events.{Made}
use Rattle.adb_history.specs.Packets.{accepts, takes_write}
use Rattle.adb_hub_tables.specs.Tables.{state_of}
use Rattle.adb_hub_tables.specs.Endings.{Reports}
use Rattle.adb_hub_tables.proofs.Reporting.{reports_as, reports_none}
use Rattle.adb_hub_tables.proofs.Using.{uses_within}
use Rattle.adb_hub_rules.proofs.Telling.{accepts_no_end}
use Rattle.adb_hub_rules.proofs.writes.take_write.Goals as goal

pub returns-then-accept-clause-reports : goal.returns-then-accept-clause-reports
returns-then-accept-clause-reports c =
    let old = c.args.tables.now in
    let new = c.accept_write.new.tables in
    let ends = c.args.ends.now in
    let stream = c.args.stream.now in
    let s = state_of old in
    let none = reports_as (accepts_no_end c.args.id c.args.payload stream s)
    (reports_none ends old new c.accept_write.ensures.uses.owned) in
    let same : accepts c.args.id c.args.payload stream s ≡ takes_write c.args.id c.args.remote c.args.payload stream s = search rules in
    subst (λ (m : Made). Reports m.told ends old ends new) same none

pub returns-else-accept-clause-uses : goal.returns-else-accept-clause-uses
returns-else-accept-clause-uses c = uses_within (c.end_telling.ensures.uses c.args.stream.now.client) 1 1 (omega arith) (omega arith)
