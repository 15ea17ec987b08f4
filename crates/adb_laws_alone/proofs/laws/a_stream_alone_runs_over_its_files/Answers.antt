use Rattle.adb_laws_alone.proofs.Alone.{one_runs_alone}
use Rattle.adb_laws_alone.proofs.laws.a_stream_alone_runs_over_its_files.Goals as goal

pub returns : goal.returns
returns c = one_runs_alone
