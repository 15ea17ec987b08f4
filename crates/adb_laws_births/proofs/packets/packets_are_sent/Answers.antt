use Rattle.adb_laws_births.proofs.Sent.{all_packets}
use Rattle.adb_laws_births.proofs.packets.packets_are_sent.Goals as goal

pub returns : goal.returns
returns c = all_packets
