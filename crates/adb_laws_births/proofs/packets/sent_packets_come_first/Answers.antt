use Rattle.adb_laws_births.proofs.Laws.{sends_first}
use Rattle.adb_laws_births.proofs.packets.sent_packets_come_first.Goals as goal

pub returns : goal.returns
returns c = sends_first
