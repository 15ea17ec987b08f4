use Rattle.adb_laws_births.proofs.Crossing.{no_crossing}
use Rattle.adb_laws_births.proofs.packets.no_stream_crosses.Goals as goal

pub returns : goal.returns
returns c = no_crossing
