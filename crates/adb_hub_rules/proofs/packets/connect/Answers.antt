use Rattle.std.proofs.Common.{◌∙◌, ap}
use Rattle.adb_history.specs.Packets.{goes_online}
use Rattle.adb_hub_tables.proofs.Reporting.{reports_none, reports_then}
use Rattle.adb_hub_tables.proofs.Using.{uses_then, provided_by}
use Rattle.adb_hub_rules.proofs.packets.connect.Goals as goal

pub go_online-requires-clause-provided : goal.go_online-requires-clause-provided
go_online-requires-clause-provided c =
    provided_by c.args.tables.now c.end_first_streams.new.tables c.end_first_streams.ensures.uses c.requires.provided

pub returns-clause-state : goal.returns-clause-state
returns-clause-state c =
    let head = c.args.head.now in
    c.go_online.ensures.state ∙ ap (goes_online c.args.link head.arg0 head.arg1 c.args.identity) c.end_first_streams.ensures.state

pub returns-clause-reports : goal.returns-clause-reports
returns-clause-reports c =
    let ended = c.end_first_streams.new in
    reports_then c.end_first_streams.ensures.reports
    (reports_none ended.ends ended.tables c.go_online.new.tables (c.go_online.ensures.uses 0 0).owned)

pub returns-clause-uses : goal.returns-clause-uses
returns-clause-uses c = λ t k. uses_then (c.end_first_streams.ensures.uses t k) (c.go_online.ensures.uses t k)
