use Rattle.adb_laws_alone.proofs.Alone.{echoes_leave}
use Rattle.adb_laws_alone.proofs.laws.echoes_leave_files.Goals as goal

pub returns : goal.returns
returns c = echoes_leave
