use Rattle.std.proofs.Common.{ℕ, ◌∙◌, [], ap, refl, sym, subst}
use Rattle.adb_outside.specs.declared.kinds.Cause.TheVariants.{Eof}
use Rattle.adb_capture.specs.declared.entry.Entry.TheVariants.{End}
use Rattle.adb_history.specs.Events.{Made}
use Rattle.adb_hub_tables.specs.Endings.{Log, Records, Reports}
use Rattle.adb_hub_tables.proofs.Reporting.{records_as, records_then, reports_none}
use Rattle.adb_hub_rules.proofs.Rests.{quiet_rule_tells}
use Rattle.adb_hub_rules.proofs.Telling.{input_none}
use Rattle.adb_laws_resting.proofs.Reached.{goes_up}
use Rattle.adb_history.specs.Rows.{State}
use Rattle.adb_history.specs.Flow.{up}
use Rattle.adb_hub_tables.specs.Tables.{state_of}
use Rattle.adb_hub_tables.specs.Places.{Uses}
use Rattle.adb_hub_tables.proofs.Using.{provided_by, uses_then}
use Rattle.adb_hub_clients.proofs.Ending.{idle_then, ended_open}
use Rattle.adb_hub_clients.proofs.ends.end_open.Goals as goal

pub close_idle-requires-clause-provided : goal.close_idle-requires-clause-provided
close_idle-requires-clause-provided c = provided_by c.args.tables.now c.end_client.new.tables
    c.end_client.ensures.uses c.requires.fit.provided

pub close_idle-requires-clause-idle : goal.close_idle-requires-clause-idle
close_idle-requires-clause-idle c =
    idle_then (state_of c.args.tables.now) c.requires.reached c.args.client c.args.stream c.requires.open
    c.end_client.new.tables c.end_client.ensures.state

pub returns : goal.returns
returns c = record {
  made =
      let uses : (t k : ℕ) → Uses t 0 k 0 c.args.tables.now c.close_idle.new.tables =
      λ t k. uses_then (c.end_client.ensures.uses t k) (c.close_idle.ensures.uses t k) in
      let state = c.close_idle.ensures.state ∙ ap (λ (s : State). (up c.args.stream s).state) c.end_client.ensures.state in
      ended_open c.args.tables.now c.close_idle.new.tables c.requires.fit c.requires.reached uses c.args.client
      c.args.stream c.requires.open state;
  told =
      let old = c.args.tables.now in
      let s = state_of old in
      let client = c.args.client in
      let stream = c.args.stream in
      let quiet = input_none client (s.clients client) s in
      let same = c.end_client.ensures.input refl in
      let none = subst (λ (log : Log). Reports [] c.args.ends.now old log c.end_client.new.tables) (sym same)
      (reports_none c.args.ends.now old c.end_client.new.tables (c.end_client.ensures.uses 0 0).owned) in
      let up = subst (λ (then : State). Records (up stream then).told c.end_client.new.ends c.end_client.new.tables c.close_idle.new.ends)
      c.end_client.ensures.state c.close_idle.ensures.reports.log in
      let alone = subst (λ (m : Made). Records m.told c.args.ends.now old c.close_idle.new.ends)
      (sym ((goes_up s c.requires.reached).ended_by client stream c.requires.open)) (records_then none up) in
      records_as (quiet_rule_tells (End client Eof) s quiet) alone;
}
