use Rattle.adb_wire.proofs.CuttingLaws.{continues}
use Rattle.adb_wire.proofs.laws.fronts_are_cut_alike.Goals as goal

pub returns : goal.returns
returns c = continues
