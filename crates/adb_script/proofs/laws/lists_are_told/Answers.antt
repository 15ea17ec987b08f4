use Rattle.adb_script.proofs.Printing.{list_printed}
use Rattle.adb_script.proofs.laws.lists_are_told.Goals as goal

pub returns : goal.returns
returns c = list_printed
