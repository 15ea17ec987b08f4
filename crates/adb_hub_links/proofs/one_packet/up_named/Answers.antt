use Rattle.std.proofs.Common.{ℕ, ◌≡◌, [], ◌∷◌, Option, ap, sym, ◌∙◌, subst}
use Rattle.adb_outside.specs.Tables.{at}
use Rattle.adb_history.specs.Rows.{State}
use Rattle.adb_history.specs.Events.{Made}
use Rattle.adb_history.specs.Flow.{up, up_all}
use Rattle.adb_hub_tables.specs.Endings.{Reports}
use Rattle.adb_hub_tables.proofs.Reporting.{reports_none}
use Rattle.adb_hub_tables.proofs.Staying.{stays}
use Rattle.adb_hub_rules.proofs.Making.{made_then_none}
use Rattle.std.specs.Prelude.{option_to_list}
use Rattle.adb_hub_tables.specs.Tables.{state_of}
use Rattle.adb_hub_rules.specs.Sweep.{CoversUp, IsReadyEach, UsesEach}
use Rattle.adb_hub_rules.proofs.StillUp.{all_is_each}
use Rattle.adb_hub_links.proofs.OneUp.{none_rise, one_rises, ready_one, uses_one}
use Rattle.adb_hub_links.proofs.one_packet.up_named.Goals as goal

up_is_all : (id k : ℕ) (s : State) → CoversUp (id ∷ []) k s → up_all k s ≡ up id s
up_is_all id k s covers = all_is_each (id ∷ []) k s (one_rises id) covers ∙ made_then_none (up id s)

pub up-requires-clause-ready : goal.up-requires-clause-ready
up-requires-clause-ready c =
    let old = c.args.tables.now in
    ready_one c.in-Some.id old (subst (λ (id : Option ℕ). IsReadyEach (option_to_list id) old) c.in-Some.is c.requires.ready)

pub returns-in-Some-clause-uses : goal.returns-in-Some-clause-uses
returns-in-Some-clause-uses c =
    let old = c.args.tables.now in
    let new = c.up.new.tables in
    subst (λ (id : Option ℕ). UsesEach (option_to_list id) old new) (sym c.in-Some.is) (uses_one c.in-Some.id old new c.up.ensures.uses)

pub returns-in-Some-clause-all : goal.returns-in-Some-clause-all
returns-in-Some-clause-all c = λ k covers.
    let old = state_of c.args.tables.now in
    let here = subst (λ (id : Option ℕ). CoversUp (option_to_list id) k old) c.in-Some.is covers in
    c.up.ensures.state ∙ ap (λ (m : Made). m.state) (sym (up_is_all c.in-Some.id k old here))

pub returns-in-Some-clause-reports : goal.returns-in-Some-clause-reports
returns-in-Some-clause-reports c = λ k covers.
    let old = state_of c.args.tables.now in
    let here = subst (λ (id : Option ℕ). CoversUp (option_to_list id) k old) c.in-Some.is covers in
    subst (λ (m : Made). Reports m.told c.args.ends.now c.args.tables.now c.up.new.ends c.up.new.tables)
    (sym (up_is_all c.in-Some.id k old here))
    c.up.ensures.reports

pub returns-in_default-clause-all : goal.returns-in_default-clause-all
returns-in_default-clause-all c = λ k covers.
    let old = state_of c.args.tables.now in
    let here = subst (λ (id : Option ℕ). CoversUp (option_to_list id) k old) c.in_default.is covers in
    ap (λ (m : Made). m.state) (sym (all_is_each [] k old none_rise here))

pub returns-in_default-clause-reports : goal.returns-in_default-clause-reports
returns-in_default-clause-reports c = λ k covers.
    let now = c.args.tables.now in
    let here = subst (λ (id : Option ℕ). CoversUp (option_to_list id) k (state_of now)) c.in_default.is covers in
    subst (λ (m : Made). Reports m.told c.args.ends.now now c.args.ends.now now) (sym (all_is_each [] k (state_of now) none_rise here))
    (reports_none c.args.ends.now now now (λ l. stays (at l now.streams.streams)))
