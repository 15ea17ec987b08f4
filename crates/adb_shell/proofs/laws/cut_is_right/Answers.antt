use Rattle.adb_shell.proofs.Cutting.{cut_right}
use Rattle.adb_shell.proofs.laws.cut_is_right.Goals as goal

pub returns : goal.returns
returns c = cut_right
