use Rattle.adb_laws_fifo_up.proofs.Holding.{holds_read}
use Rattle.adb_laws_fifo_up.proofs.up.what_is_held_was_read.Goals as goal

pub returns : goal.returns
returns c = holds_read
