use Rattle.adb_script.proofs.Printed.{pull_printed}
use Rattle.adb_script.proofs.laws.pulls_are_read.Goals as goal

pub returns : goal.returns
returns c = pull_printed c.written_files_are_pulled.ensures
