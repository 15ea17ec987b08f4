use Rattle.adb_script.proofs.Printing.{stat_printed}
use Rattle.adb_script.proofs.laws.stats_are_told.Goals as goal

pub returns : goal.returns
returns c = stat_printed
