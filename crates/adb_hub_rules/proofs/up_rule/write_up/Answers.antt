use Rattle.std.proofs.Common.{◌+◌, ◌-◌, arith, length}
use Rattle.adb_outside.specs.Tables.{at}
use Rattle.adb_hub_rules.specs.Up.{unsent}
use Rattle.adb_hub_tables.proofs.Using.{more_room}
use Rattle.adb_hub_rules.proofs.Sending.{sends_then}
use Rattle.adb_hub_rules.proofs.up_rule.write_up.Goals as goal

pub write_next-requires-clause-room : goal.write_next-requires-clause-room
write_next-requires-clause-room c =
    let stream = c.args.stream.now in
    let all = length (unsent stream c.args.maxdata (stream.part.flow, c.args.tables.now)) in
    let left = length (unsent stream c.args.maxdata (c.loop.flow, c.loop.tables)) in
    (c.loop.invariant.uses 0).on_link left
    (more_room all (left + (all - left)) (at stream.link c.args.tables.now.links.entries)
    (omega (arith, c.loop.invariant.fewer)) c.requires.room)

pub loop-preserved : goal.loop-preserved
loop-preserved c = sends_then c.args.id c.args.stream.now c.args.maxdata c.loop.invariant c.write_next.ensures.sends

pub returns-clause-sends : goal.returns-clause-sends
returns-clause-sends c = sends_then c.args.id c.args.stream.now c.args.maxdata c.loop.invariant c.write_next.ensures.sends
