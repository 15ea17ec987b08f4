use Rattle.adb_laws_alone.proofs.InPart.{run_in_part}
use Rattle.adb_laws_alone.proofs.laws.streams_run_in_part.Goals as goal

pub returns : goal.returns
returns c = run_in_part
