use Rattle.adb_laws_births.proofs.Born.{all_births}
use Rattle.adb_laws_births.proofs.streams.streams_are_born.Goals as goal

pub returns : goal.returns
returns c = all_births
