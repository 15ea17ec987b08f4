use Rattle.adb_capture.specs.declared.entry.Entry.TheVariants.{End}
use Rattle.adb_hub_tables.proofs.Reporting.{records_as}
use Rattle.adb_hub_rules.proofs.Rests.{rule_tells}
use Rattle.adb_hub_tables.specs.Tables.{state_of}
use Rattle.adb_laws_resting.proofs.Reached.{sends_nothing}
use Rattle.adb_hub_clients.proofs.Ending.{ended_by}
use Rattle.adb_hub_clients.proofs.ends.end.Goals as goal

pub returns-in_default : goal.returns-in_default
returns-in_default c = record {
  made =
      let old = c.args.tables.now in
      ended_by old c.end_client.new.tables c.requires.fit c.requires.reached c.end_client.ensures.uses c.args.client c.args.cause
      ((sends_nothing (state_of old) c.requires.reached).failed c.args.client c.args.cause c.in_default.not-Eof) c.end_client.ensures.state;
  told =
      let s = state_of c.args.tables.now in
      let rests = (sends_nothing s c.requires.reached).failed c.args.client c.args.cause c.in_default.not-Eof in
      records_as (rule_tells (End c.args.client c.args.cause) s rests) c.end_client.ensures.records;
}
