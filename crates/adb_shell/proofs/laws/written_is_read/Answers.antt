use Rattle.adb_shell.proofs.Spelled.{read_again}
use Rattle.adb_shell.proofs.laws.written_is_read.Goals as goal

pub returns : goal.returns
returns c = read_again
