use Rattle.std.proofs.Common.{◌∙◌}
use Rattle.adb_outside.specs.declared.kinds.Cause.TheVariants.{Eof}
use Rattle.adb_capture.specs.declared.entry.Entry.TheVariants.{End}
use Rattle.adb_hub_tables.proofs.Reporting.{records_as}
use Rattle.adb_hub_rules.proofs.Rests.{rule_tells}
use Rattle.adb_hub_tables.specs.Tables.{state_of}
use Rattle.adb_laws_resting.proofs.Reached.{sends_nothing}
use Rattle.adb_hub_clients.proofs.Ending.{no_open, ended_by}
use Rattle.adb_hub_clients.proofs.ends.end_input.Goals as goal

pub returns-in_default : goal.returns-in_default
returns-in_default c = record {
  made =
      let old = c.args.tables.now in
      let s = state_of old in
      let closed = no_open (s.clients c.args.client) (λ l is. c.in_default.not-Streaming l (c.phase_of.ensures ∙ is)) in
      ended_by old c.end_client.new.tables c.requires.fit c.requires.reached c.end_client.ensures.uses c.args.client Eof
      ((sends_nothing s c.requires.reached).ended c.args.client Eof closed) c.end_client.ensures.state;
  told =
      let s = state_of c.args.tables.now in
      let closed = no_open (s.clients c.args.client) (λ l is. c.in_default.not-Streaming l (c.phase_of.ensures ∙ is)) in
      records_as (rule_tells (End c.args.client Eof) s
      ((sends_nothing s c.requires.reached).ended c.args.client Eof closed)) c.end_client.ensures.records;
}
