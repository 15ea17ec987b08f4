use Rattle.adb_wire.proofs.CuttingLaws.{spelled_is_next}
use Rattle.adb_wire.proofs.laws.spelled_packets_are_cut.Goals as goal

pub returns : goal.returns
returns c = spelled_is_next
