use Rattle.std.proofs.Common.{ℕ, ◌≡◌, ◌∙◌, ap, subst, length}
use Rattle.adb_outside.specs.Tables.{at}
use Rattle.adb_stream.specs.declared.flow.Flow.{Flow}
use Rattle.adb_history.specs.Rows.{to_stream, with_stream_part}
use Rattle.adb_history.specs.Links.{maxdata_of}
use Rattle.adb_history.specs.Flow.{with_flow, flow_after}
use Rattle.adb_hub_tables.specs.declared.tables.Tables.{Tables}
use Rattle.adb_hub_tables.specs.Tables.{state_of}
use Rattle.adb_hub_tables.specs.Places.{Uses}
use Rattle.adb_hub_rules.specs.Up.{held_at, unsent, all_unsent, all_sent}
use Rattle.adb_hub_rules.proofs.GoingUp.{sent_all, flow_all, uses_all, noted_is, then_spared}
use Rattle.adb_hub_rules.proofs.up_rule.send_held.Goals as goal

pub returns-clause-state : goal.returns-clause-state
returns-clause-state c =
    let old = c.args.tables.now in
    let middle = c.write_up-flow.new.tables in
    let stream = c.args.stream.now in
    let first : Flow × Tables = (stream.part.flow, old) in
    let then : Flow × Tables = (c.write_up-flow.result, middle) in
    let m = c.maxdata_of-maxdata.result in
    let sends = c.write_up-flow.ensures.sends in
    let all = c.write_up-flow.ensures.all in
    let sent : state_of middle ≡ all_sent c.args.id stream (maxdata_of stream.link old.devices) first =
    subst (λ (m : ℕ). state_of middle ≡ all_sent c.args.id stream m first) c.maxdata_of-maxdata.ensures
    (sent_all c.args.id stream m first then sends all) in
    let flow : c.write_up-flow.result ≡ flow_after (all_unsent stream old) stream.part.flow =
    subst (λ (m : ℕ). c.write_up-flow.result ≡ flow_after (unsent stream m first) stream.part.flow) c.maxdata_of-maxdata.ensures
    (flow_all c.args.id stream m first then sends all) in
    c.set_flow.ensures.state
    ∙ (ap (to_stream c.args.id (with_stream_part (with_flow c.write_up-flow.result stream.part))) sent
    ∙ noted_is c.args.id stream (all_unsent stream old) (held_at (at stream.client old.clients.entries))
    (state_of old) c.write_up-flow.result flow)

pub returns-clause-uses : goal.returns-clause-uses
returns-clause-uses c = λ k.
    let old = c.args.tables.now in
    let stream = c.args.stream.now in
    let first : Flow × Tables = (stream.part.flow, old) in
    let sent = subst (λ (m : ℕ). Uses stream.link (length (unsent stream m first)) k 0 old c.write_up-flow.new.tables)
    c.maxdata_of-maxdata.ensures
    (uses_all c.args.id stream c.maxdata_of-maxdata.result first (c.write_up-flow.result, c.write_up-flow.new.tables)
    c.write_up-flow.ensures.sends
    c.write_up-flow.ensures.all k) in
    then_spared sent (c.set_flow.ensures.uses stream.link k)
