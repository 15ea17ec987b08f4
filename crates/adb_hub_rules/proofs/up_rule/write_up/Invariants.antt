use Rattle.std.proofs.Common.{length}
use Rattle.adb_outside.specs.Tables.{at}
use Rattle.adb_hub_rules.specs.Up.{held_at, Sends}
use Rattle.adb_hub_rules.proofs.up_rule.write_up.Given as goal

-- what was written so far
abbrev pub invariant-loop : goal.invariant-loop
invariant-loop l = Sends l.id l.stream l.maxdata (l.initial.flow, l.fn.tables) (l.flow, l.tables)

-- how many bytes are held
abbrev pub decreases-loop : goal.decreases-loop
decreases-loop l = length (held_at (at l.stream.client l.tables.clients.entries))
