use Rattle.adb_shell.proofs.Cutting.{cut_only}
use Rattle.adb_shell.proofs.laws.cut_is_determined.Goals as goal

pub returns : goal.returns
returns c = cut_only
