use Rattle.std.proofs.Common.{subst}
use Rattle.adb_client.specs.declared.phase.Phase.{Phase}
use Rattle.adb_history.specs.Rows.{State}
use Rattle.adb_history.specs.Losing.{stream_fails, stream_of}
use Rattle.adb_hub_tables.specs.Tables.{fails_in, state_of}
use Rattle.adb_hub_tables.specs.Endings.{Records}
use Rattle.adb_hub_tables.proofs.Reporting.{reports_none, records_then}
use Rattle.adb_hub_tables.proofs.Using.{uses_then, provided_by}
use Rattle.adb_hub_rules.proofs.losing.fail_client.Goals as goal

pub fail_stream-requires : goal.fail_stream-requires
fail_stream-requires c = provided_by c.args.tables.now c.drop_client.new.self c.drop_client.ensures.uses c.requires

pub returns-clause-records : goal.returns-clause-records
returns-clause-records c =
    let old = c.args.tables.now in
    let dropped = c.drop_client.new.self in
    let before = c.args.ends.now in
    let after = c.fail_stream.new.ends in
    let none = reports_none before old dropped (c.drop_client.ensures.uses 0 0).owned in
    let failed = subst (λ (s : State). Records (stream_fails c.phase_of-phase.result c.args.cause
    (stream_of c.phase_of-phase.result s.streams) s).told before dropped after)
    c.drop_client.ensures.state c.fail_stream.ensures.records in
    subst (λ (phase : Phase). Records (fails_in phase c.args.client c.args.cause (state_of old)).told before old
    after) c.phase_of-phase.ensures
    (records_then none failed)

pub returns-clause-uses : goal.returns-clause-uses
returns-clause-uses c = λ t k. uses_then (c.drop_client.ensures.uses t k) (c.fail_stream.ensures.uses t k)
