use Rattle.std.proofs.Common.{◌∙◌, ap}
use Rattle.adb_stream.specs.declared.flow.Flow.{Flow}
use Rattle.adb_history.specs.Rows.{State, to_stream, with_stream_part}
use Rattle.adb_history.specs.Flow.{with_flow}
use Rattle.adb_history.specs.Handing.{tells_handed}
use Rattle.adb_hub_tables.specs.Tables.{state_of}
use Rattle.adb_hub_tables.proofs.Using.{uses_then}
use Rattle.adb_hub_rules.proofs.handing.leave.Goals as goal

pub returns-clause-state : goal.returns-clause-state
returns-clause-state c =
    let stream = c.args.stream.now in
    let told = λ (s : State). (tells_handed stream.part.flow c.args.left c.args.id stream s).state in
    c.tell_handed.ensures.state
    ∙ (ap told c.set_flow.ensures.state
    ∙ ap (λ (flow : Flow). told (to_stream c.args.id (with_stream_part (with_flow flow stream.part)) (state_of c.args.tables.now)))
    c.hand_to-back.ensures.after)

pub returns-clause-uses : goal.returns-clause-uses
returns-clause-uses c = λ k. uses_then (c.set_flow.ensures.uses c.args.stream.now.link k) (c.tell_handed.ensures.uses k)
