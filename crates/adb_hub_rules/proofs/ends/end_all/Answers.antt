use Rattle.std.proofs.Common.{List, ap, sym, subst, ◌∙◌}
use Rattle.adb_outside.specs.Tables.{at}
use Rattle.adb_history.specs.Events.{Made, Event}
use Rattle.adb_hub_tables.specs.Tables.{state_of}
use Rattle.adb_hub_tables.specs.Endings.{Reports}
use Rattle.adb_hub_tables.proofs.Reporting.{reports_none}
use Rattle.adb_hub_tables.proofs.Staying.{stays}
use Rattle.adb_hub_rules.proofs.Ending.{none_ends}
use Rattle.adb_hub_tables.proofs.Using.{uses_then, provided_by}
use Rattle.adb_hub_rules.proofs.ends.end_all.Goals as goal

pub loop-id-preserved : goal.loop-id-preserved
loop-id-preserved c =
    let before = c.loop-id.invariant in (
      c.end_first.ensures.state ∙ before.0,
      provided_by c.loop-id.tables c.end_first.new.tables c.end_first.ensures.uses before.1,
      λ t k. uses_then (before.2 t k) (c.end_first.ensures.uses t k),
      λ log t rest. before.3 log t (c.end_first.ensures.reports log t rest),
    )

pub returns-clause-state : goal.returns-clause-state
returns-clause-state c =
    ap (λ (m : Made). m.state)
    (sym (none_ends c.args.link c.args.ending (state_of c.loop-id.tables) c.in_default.ensures.first))
    ∙ c.loop-id.invariant.0

pub returns-clause-reports : goal.returns-clause-reports
returns-clause-reports c =
    let now = c.loop-id.tables in
    let none = ap (λ (m : Made). m.told) (sym (none_ends c.args.link c.args.ending (state_of now) c.in_default.ensures.first)) in
    c.loop-id.invariant.3 c.loop-id.ends now
    (subst (λ (told : List Event). Reports told c.loop-id.ends now c.loop-id.ends now) none
    (reports_none c.loop-id.ends now now (λ l. stays (at l now.streams.streams))))
