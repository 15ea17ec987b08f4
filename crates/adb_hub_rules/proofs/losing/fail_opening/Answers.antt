use Rattle.std.proofs.Common.{Option, Some, ◌≡◌, ◌∙◌, sym, subst}
use Rattle.adb_outside.specs.Tables.{at}
use Rattle.adb_stream.specs.declared.row.Stream.{Stream}
use Rattle.adb_client.specs.declared.phase.Phase.TheVariants.{Opening}
use Rattle.adb_history.specs.declared.ending.Ending.TheVariants.{ClientFailed}
use Rattle.adb_history.specs.Losing.{stream_fails}
use Rattle.adb_hub_tables.specs.Tables.{state_of}
use Rattle.adb_hub_tables.specs.Endings.{Log, Records}
use Rattle.adb_hub_tables.proofs.Reporting.{records_end}
use Rattle.adb_hub_rules.proofs.losing.fail_opening.Goals as goal

pub returns-in-Some-clause-records : goal.returns-in-Some-clause-records
returns-in-Some-clause-records c =
    let id = c.args.id in
    let stream = c.in-Some.stream in
    let old = c.args.tables.now in
    let s = state_of old in
    let here : at id old.streams.streams ≡ Some stream = sym c.get.ensures.found ∙ cc in
    let told = (stream_fails (Opening id) c.args.cause (Some stream) s).told in
    subst (λ (row : Option Stream). Records (stream_fails (Opening id) c.args.cause row s).told c.args.ends.now old
    c.record_failure.new.ends) (sym here)
    (subst (λ (log : Log). Records told c.args.ends.now old log) (sym c.record_failure.ensures)
    (records_end id (ClientFailed c.args.cause) stream c.args.ends.now old here))
