use Rattle.adb_laws_fifo_down.proofs.Acknowledged.{has_windows}
use Rattle.adb_laws_fifo_down.proofs.streams.every_stream_keeps_its_window.Goals as goal

pub returns : goal.returns
returns c = has_windows
