use Rattle.adb_daemon.proofs.Exact.{windows_exact}
use Rattle.adb_daemon.proofs.laws.windows_are_exact.Goals as goal

pub returns : goal.returns
returns c = λ setting packets own some timely. windows_exact own some setting packets timely
