use Rattle.adb_script.proofs.Ran.{command_printed}
use Rattle.adb_script.proofs.laws.commands_are_run.Goals as goal

pub returns : goal.returns
returns c = command_printed
