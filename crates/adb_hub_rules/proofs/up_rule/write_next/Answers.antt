use Rattle.std.proofs.Common.{◌∙◌, sym, subst, arith, length}
use Rattle.adb_outside.specs.Tables.{at}
use Rattle.adb_stream.specs.declared.flow.Flow.{Flow}
use Rattle.adb_hub_rules.specs.Up.{held_at, Sends, unsent}
use Rattle.adb_hub_rules.proofs.WritesUp.{none_let}
use Rattle.adb_hub_tables.proofs.Using.{more_room}
use Rattle.adb_hub_rules.proofs.Sending.{sends_one, can_one, some_unsent}
use Rattle.adb_hub_rules.proofs.up_rule.write_next.Goals as goal

pub returns-then-n-eq0-clause-all : goal.returns-then-n-eq0-clause-all
returns-then-n-eq0-clause-all c = λ _.
    none_let c.args.flow.now c.args.maxdata (held_at (at c.args.stream.now.client c.args.tables.now.clients.entries))
    (sym c.next_len-n.ensures ∙ c.if-n-eq0.true)

pub write_one-requires-clause-cut : goal.write_one-requires-clause-cut
write_one-requires-clause-cut c =
    can_one c.args.flow.now c.args.maxdata c.next_len-n.result (at c.args.stream.now.client c.args.tables.now.clients.entries)
    c.next_len-n.ensures (omega (arith, c.if-n-eq0.false)) c.requires.cut

pub write_one-requires-clause-room : goal.write_one-requires-clause-room
write_one-requires-clause-room c =
    more_room (length (unsent c.args.stream.now c.args.maxdata (c.args.flow.now, c.args.tables.now))) 1
    (at c.args.stream.now.link c.args.tables.now.links.entries)
    (some_unsent c.args.flow.now c.args.maxdata c.next_len-n.result
    (held_at (at c.args.stream.now.client c.args.tables.now.clients.entries))
    c.next_len-n.ensures (omega (arith, c.if-n-eq0.false))) c.requires.room

pub returns-clause-sends : goal.returns-clause-sends
returns-clause-sends c =
    let old = c.args.tables.now in
    let new = c.write_one.new.tables in
    subst (λ (flow : Flow). Sends c.args.id c.args.stream.now c.args.maxdata (c.args.flow.now, old) (flow, new)) (sym c.wrote.ensures)
    (sends_one c.args.id c.args.stream.now c.args.maxdata c.args.flow.now c.next_len-n.result old new (record {
      state = c.write_one.ensures.state;
      client = c.write_one.ensures.client;
      others = c.write_one.ensures.others;
      streams = c.write_one.ensures.streams;
      uses = c.write_one.ensures.uses;
    }) c.next_len-n.ensures (omega (arith, c.if-n-eq0.false)))
