use Rattle.adb_wire.proofs.CuttingLaws.{no_packet}
use Rattle.adb_wire.proofs.laws.no_packet_is_left.Goals as goal

pub returns : goal.returns
returns c = no_packet
