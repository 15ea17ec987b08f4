use Rattle.adb_wire.proofs.CuttingLaws.{cuts_same}
use Rattle.adb_wire.proofs.laws.cutting_is_determined.Goals as goal

pub returns : goal.returns
returns c = cuts_same
