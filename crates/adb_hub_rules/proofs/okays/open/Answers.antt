use Rattle.std.proofs.Common.{◌∙◌, ap}
use Rattle.adb_stream.specs.Flow.{first_credit}
use Rattle.adb_client.specs.declared.phase.Phase.TheVariants.{Streaming}
use Rattle.adb_history.specs.Rows.{State, to_client, to_stream, in_phase, with_stream_part}
use Rattle.adb_history.specs.Packets.{with_remote}
use Rattle.adb_history.specs.Flow.{with_flow}
use Rattle.adb_stream.specs.declared.row.Part.{Part}
use Rattle.adb_hub_tables.specs.Tables.{state_of}
use Rattle.adb_hub_tables.proofs.Using.{uses_then}
use Rattle.adb_hub_rules.proofs.okays.open.Goals as goal

pub returns-clause-state : goal.returns-clause-state
returns-clause-state c =
    let stream = c.args.stream.now in
    let opening = λ (part : Part) (s : State).
    to_client stream.client (in_phase (Streaming c.args.id)) (to_stream c.args.id (with_stream_part part) s) in
    c.open_client.ensures.state
    ∙ (ap (to_client stream.client (in_phase (Streaming c.args.id))) c.set_part.ensures.state
    ∙ (ap (λ part. opening part (state_of c.hear_okay.new.tables)) c.opened_part-part.ensures
    ∙ ap (opening (with_remote c.args.remote (with_flow (first_credit c.args.word stream.part.flow) stream.part)))
    c.hear_okay.ensures.state))

pub returns-clause-uses : goal.returns-clause-uses
returns-clause-uses c = λ t.
    let client = c.args.stream.now.client in
    uses_then (uses_then (c.hear_okay.ensures.uses t) (c.set_part.ensures.uses t client)) (c.open_client.ensures.uses t client)
