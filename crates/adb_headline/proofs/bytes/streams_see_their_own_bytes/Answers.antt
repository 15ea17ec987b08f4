use Rattle.adb_laws_fifo_down.proofs.Handed.{hands_told}
use Rattle.adb_headline.proofs.Written.{hands_written}
use Rattle.adb_headline.proofs.bytes.streams_see_their_own_bytes.Goals as goal

pub returns : goal.returns
returns c = λ h legal. hands_written h (hands_told h legal)
