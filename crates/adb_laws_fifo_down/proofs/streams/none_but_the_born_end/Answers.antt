use Rattle.adb_laws_fifo_down.proofs.Unborn.{ends_born}
use Rattle.adb_laws_fifo_down.proofs.streams.none_but_the_born_end.Goals as goal

pub returns : goal.returns
returns c = ends_born
