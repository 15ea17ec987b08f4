use Rattle.std.proofs.Common.{arith}
use Rattle.adb_hub_rules.proofs.Taking.{takes_from}
use Rattle.adb_hub_rules.proofs.treating.treat_close.Goals as goal

pub returns-in-Some-clause-takes : goal.returns-in-Some-clause-takes
returns-in-Some-clause-takes c = λ slices. takes_from (c.take_close.ensures.uses c.args.link 0) slices (omega arith) (omega arith)
