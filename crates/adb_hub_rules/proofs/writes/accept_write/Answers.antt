use Rattle.std.proofs.Common.{arith}
use Rattle.adb_hub_tables.proofs.Using.{uses_within}
use Rattle.adb_hub_rules.proofs.writes.accept_write.Goals as goal

pub returns-then-is_empty-clause-uses : goal.returns-then-is_empty-clause-uses
returns-then-is_empty-clause-uses c = uses_within (c.accept_none.ensures.uses c.args.stream.now.client) 1 1 (omega arith) (omega arith)

pub returns-else-is_empty-clause-uses : goal.returns-else-is_empty-clause-uses
returns-else-is_empty-clause-uses c = uses_within (c.accept_some.ensures.uses c.args.stream.now.link) 1 1 (omega arith) (omega arith)
