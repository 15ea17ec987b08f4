use Rattle.adb_laws_births.proofs.Crossing.{owes_own}
use Rattle.adb_laws_births.proofs.packets.due_packets_are_own.Goals as goal

pub returns : goal.returns
returns c = owes_own
