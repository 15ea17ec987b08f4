use Rattle.std.proofs.Common.{arith}
use Rattle.adb_hub_tables.proofs.Using.{uses_within}
use Rattle.adb_hub_rules.proofs.okays.take_first.Goals as goal

pub returns-then-stream-clause-uses : goal.returns-then-stream-clause-uses
returns-then-stream-clause-uses c = λ t. uses_within (c.close_orphan.ensures.uses t c.args.stream.now.client) 0 1
    (omega arith) (omega arith)
