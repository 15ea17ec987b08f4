use Rattle.adb_laws_births.proofs.Born.{all_born}
use Rattle.adb_laws_births.proofs.streams.streams_hear_their_links.Goals as goal

pub returns : goal.returns
returns c = all_born
