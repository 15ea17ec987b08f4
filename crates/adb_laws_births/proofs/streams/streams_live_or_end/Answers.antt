use Rattle.adb_laws_births.proofs.Endings.{all_endings}
use Rattle.adb_laws_births.proofs.streams.streams_live_or_end.Goals as goal

pub returns : goal.returns
returns c = all_endings
