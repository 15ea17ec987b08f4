use Rattle.std.proofs.Common.{◌∙◌, ap, subst}
use Rattle.adb_history.specs.Rows.{State}
use Rattle.adb_history.specs.Tracking.{mark_all}
use Rattle.adb_history.specs.Streams.{all_end}
use Rattle.adb_hub_tables.specs.Endings.{Reports}
use Rattle.adb_hub_tables.proofs.Reporting.{reports_none, reports_then}
use Rattle.adb_hub_tables.proofs.Using.{uses_then, provided_by}
use Rattle.adb_hub_rules.proofs.losing.end_link.Goals as goal

pub end_all-requires : goal.end_all-requires
end_all-requires c = provided_by c.args.tables.now c.forget_link.new.tables c.forget_link.ensures.uses c.requires

pub returns-clause-state : goal.returns-clause-state
returns-clause-state c =
    let tracked = (c.end_all.ensures.uses 0 0).tracked ((c.forget_link.ensures.uses 0 0).tracked c.requires.tracked) in
    c.mark_all.ensures.state tracked
    ∙ ap mark_all (c.end_all.ensures.state ∙ ap (λ (s : State). (all_end c.args.link c.args.ending s).state) c.forget_link.ensures.state)

pub returns-clause-reports : goal.returns-clause-reports
returns-clause-reports c =
    let old = c.args.tables.now in
    let forgotten = reports_none c.args.ends.now old c.forget_link.new.tables (c.forget_link.ensures.uses 0 0).owned in
    let ended = subst (λ (s : State). Reports (all_end c.args.link c.args.ending s).told c.args.ends.now c.forget_link.new.tables
    c.end_all.new.ends c.end_all.new.tables)
    c.forget_link.ensures.state c.end_all.ensures.reports in
    let marked = reports_none c.end_all.new.ends c.end_all.new.tables c.mark_all.new.self (c.mark_all.ensures.uses 0 0).owned in
    reports_then forgotten (reports_then ended marked)

pub returns-clause-uses : goal.returns-clause-uses
returns-clause-uses c = λ t k. uses_then (uses_then (c.forget_link.ensures.uses t k) (c.end_all.ensures.uses t k))
    (c.mark_all.ensures.uses t k)
