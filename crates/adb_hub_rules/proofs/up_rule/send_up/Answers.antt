use Rattle.std.proofs.Common.{◌≡◌, ◌+◌, arith, length}
use Rattle.adb_outside.specs.Tables.{at}
use Rattle.adb_history.specs.Events.{Made}
use Rattle.adb_history.specs.Flow.{noted}
use Rattle.adb_hub_tables.specs.Tables.{state_of}
use Rattle.adb_hub_tables.specs.Endings.{Reports}
use Rattle.adb_hub_tables.proofs.Reporting.{reports_none, reports_as, reports_then}
use Rattle.adb_hub_rules.proofs.Telling.{writes_none}
use Rattle.adb_hub_rules.specs.Up.{all_unsent}
use Rattle.adb_hub_tables.proofs.Using.{more_room}
use Rattle.adb_hub_rules.proofs.GoingUp.{middle_stream, middle_open, sent_up, then_spared}
use Rattle.adb_hub_rules.proofs.up_rule.send_up.Goals as goal

pub close_over-requires-clause-here : goal.close_over-requires-clause-here
close_over-requires-clause-here c =
    let sent = c.send_held-flow in
    middle_stream c.args.id c.args.stream.now c.args.tables.now sent.new.tables sent.ensures.state sent.result
    sent.ensures.flow c.requires.here

pub close_over-requires-clause-open : goal.close_over-requires-clause-open
close_over-requires-clause-open c =
    let sent = c.send_held-flow in
    middle_open c.args.id c.args.stream.now c.args.tables.now sent.new.tables sent.ensures.state c.requires.open

pub close_over-requires-clause-room : goal.close_over-requires-clause-room
close_over-requires-clause-room c =
    let stream = c.args.stream.now in
    let old = c.args.tables.now in
    let writes = length (all_unsent stream old) in
    (c.send_held-flow.ensures.uses 0).on_link 0
    (more_room writes (0 + writes) (at stream.link old.links.entries) (omega arith) c.requires.ready.room)

pub close_over-requires-clause-counted : goal.close_over-requires-clause-counted
close_over-requires-clause-counted c = (c.send_held-flow.ensures.uses 0).counted c.requires.counted

pub returns-clause-state : goal.returns-clause-state
returns-clause-state c = λ row owner.
    let sent = c.send_held-flow in
    sent_up c.args.id c.args.stream.now c.args.tables.now sent.new.tables sent.ensures.state row sent.result
    (λ (m : Made). state_of c.close_over.new.tables ≡ m.state) c.requires.here (owner, sent.ensures.flow) c.close_over.ensures.state

pub returns-clause-reports : goal.returns-clause-reports
returns-clause-reports c = λ row owner.
    let id = c.args.id in
    let stream = c.args.stream.now in
    let old = c.args.tables.now in
    let before = c.args.ends.now in
    let sent = c.send_held-flow in
    let writes = all_unsent stream old in
    let none = reports_as (writes_none id stream writes (noted id stream row.held writes (state_of old)))
    (reports_none before old sent.new.tables (sent.ensures.uses 0).owned) in
    sent_up id stream old sent.new.tables sent.ensures.state row sent.result
    (λ (m : Made). Reports m.told before old c.close_over.new.ends c.close_over.new.tables) c.requires.here (owner, sent.ensures.flow)
    (λ seen there. reports_then none (c.close_over.ensures.reports seen there))

pub returns-clause-uses : goal.returns-clause-uses
returns-clause-uses c = λ k. then_spared (c.send_held-flow.ensures.uses k) (c.close_over.ensures.uses k)
