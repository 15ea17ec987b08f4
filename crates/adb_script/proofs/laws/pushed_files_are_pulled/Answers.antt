use Rattle.adb_script.proofs.Stored.{pulled_behind}
use Rattle.adb_script.proofs.laws.pushed_files_are_pulled.Goals as goal

pub returns : goal.returns
returns c = pulled_behind c.written_files_are_pulled.ensures
