use Rattle.adb_laws_fifo_down.proofs.Handed.{has_lives}
use Rattle.adb_laws_fifo_down.proofs.streams.every_stream_has_its_life.Goals as goal

pub returns : goal.returns
returns c = has_lives
