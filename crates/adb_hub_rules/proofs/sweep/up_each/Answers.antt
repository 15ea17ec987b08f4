use Rattle.std.proofs.Common.{ℕ, List, ap, subst, sym, ◌∙◌}
use Rattle.adb_outside.specs.Tables.{at}
use Rattle.adb_history.specs.Rows.{State}
use Rattle.adb_history.specs.Events.{Made}
use Rattle.adb_hub_tables.specs.declared.tables.Tables.{Tables}
use Rattle.adb_hub_tables.specs.Endings.{Log, Reports}
use Rattle.adb_hub_tables.proofs.Reporting.{reports_none, reports_then}
use Rattle.adb_hub_tables.proofs.Staying.{stays}
use Rattle.adb_hub_rules.specs.Sweep.{up_each}
use Rattle.adb_hub_tables.specs.Tables.{state_of}
use Rattle.adb_hub_rules.proofs.StillUp.{all_is_each}
use Rattle.adb_hub_rules.proofs.EachUp.{Swept, ready_first, swept_one, swept_uses}
use Rattle.adb_hub_rules.proofs.sweep.up_each.Goals as goal

pub up-requires-clause-ready : goal.up-requires-clause-ready
up-requires-clause-ready c =
    let old = c.args.tables.now in
    let swept = subst (λ (ids : List ℕ). Swept c.args.ids.now.keys ids old c.loop-id.tables) c.in-Some.ensures.steps
    c.loop-id.invariant.0 in
    ready_first c.in-Some.id.now c.next.new.self c.loop-id.tables swept.ready

pub loop-id-preserved : goal.loop-id-preserved
loop-id-preserved c =
    let old = c.args.tables.now in
    let swept = subst (λ (ids : List ℕ). Swept c.args.ids.now.keys ids old c.loop-id.tables) c.in-Some.ensures.steps
    c.loop-id.invariant.0 in
    let then = swept_one c.args.ids.now.keys c.next.new.self c.in-Some.id.now swept (record {
      state = c.up.ensures.state;
      uses = c.up.ensures.uses;
      others = c.up.ensures.others;
      devices = c.up.ensures.devices;
    }) in
    let rest = c.next.new.self in
    let after = λ (log : Log) (t : Tables)
    (told : Reports (up_each rest (state_of c.up.new.tables)).told c.up.new.ends c.up.new.tables log t).
    c.loop-id.invariant.2 log t
    (subst (λ (ids : List ℕ). Reports (up_each ids (state_of c.loop-id.tables)).told c.loop-id.ends c.loop-id.tables
    log t) (sym c.in-Some.ensures.steps)
    (reports_then c.up.ensures.reports
    (subst (λ (s : State). Reports (up_each rest s).told c.up.new.ends c.up.new.tables log t) c.up.ensures.state told))) in
    (then, then.counted c.requires.counted, after)

pub returns-clause-uses : goal.returns-clause-uses
returns-clause-uses c =
    swept_uses c.args.ids.now.keys c.args.tables.now c.loop-id.tables
    (subst (λ (ids : List ℕ). Swept c.args.ids.now.keys ids c.args.tables.now c.loop-id.tables)
    c.in-None.ensures.steps.0 c.loop-id.invariant.0)

pub returns-clause-all : goal.returns-clause-all
returns-clause-all c = λ k covers.
    let old = c.args.tables.now in
    let ids = c.args.ids.now.keys in
    let swept = subst (λ (rest : List ℕ). Swept ids rest old c.loop-id.tables) c.in-None.ensures.steps.0 c.loop-id.invariant.0 in
    swept.state ∙ ap (λ (m : Made). m.state) (sym (all_is_each ids k (state_of old) c.iter-id-items.ensures.ordered covers))

pub returns-clause-reports : goal.returns-clause-reports
returns-clause-reports c = λ k covers.
    let old = c.args.tables.now in
    let now = c.loop-id.tables in
    let ids = c.args.ids.now.keys in
    let each = c.loop-id.invariant.2 c.loop-id.ends now
    (subst (λ (rest : List ℕ). Reports (up_each rest (state_of now)).told c.loop-id.ends now c.loop-id.ends now)
    (sym c.in-None.ensures.steps.0)
    (reports_none c.loop-id.ends now now (λ l. stays (at l now.streams.streams)))) in
    subst (λ (m : Made). Reports m.told c.args.ends.now old c.loop-id.ends now)
    (sym (all_is_each ids k (state_of old) c.iter-id-items.ensures.ordered covers)) each
