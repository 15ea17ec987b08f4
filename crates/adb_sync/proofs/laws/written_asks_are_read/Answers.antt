use Rattle.adb_sync.proofs.AskCuts.{ask_again}
use Rattle.adb_sync.proofs.laws.written_asks_are_read.Goals as goal

pub returns : goal.returns
returns c = ask_again
