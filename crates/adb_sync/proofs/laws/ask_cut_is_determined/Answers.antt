use Rattle.adb_sync.proofs.AskCuts.{ask_cut_only}
use Rattle.adb_sync.proofs.laws.ask_cut_is_determined.Goals as goal

pub returns : goal.returns
returns c = ask_cut_only
