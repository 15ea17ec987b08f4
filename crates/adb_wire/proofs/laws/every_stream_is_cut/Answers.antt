use Rattle.adb_wire.proofs.CuttingLaws.{parts_cut}
use Rattle.adb_wire.proofs.laws.every_stream_is_cut.Goals as goal

pub returns : goal.returns
returns c = parts_cut
