use Rattle.adb_wire.proofs.SliceLaws.{follow}
use Rattle.adb_wire.proofs.laws.slices_are_packets.Goals as goal

pub returns : goal.returns
returns c = follow
