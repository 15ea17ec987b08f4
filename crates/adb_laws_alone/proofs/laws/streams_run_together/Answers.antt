use Rattle.adb_laws_alone.proofs.Together.{run_together}
use Rattle.adb_laws_alone.proofs.laws.streams_run_together.Goals as goal

pub returns : goal.returns
returns c = run_together
