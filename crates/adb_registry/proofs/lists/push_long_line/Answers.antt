use Rattle.std.proofs.Common.{rules, append_assoc}
use Rattle.std.proofs.lemmas.Result.{IfOk-equal}
use Rattle.adb_registry.proofs.lists.push_long_line.Goals as goal

pub returns : goal.returns
returns c = search (rules, IfOk-equal, append_assoc)
