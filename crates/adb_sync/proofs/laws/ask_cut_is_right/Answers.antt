use Rattle.adb_sync.proofs.AskCuts.{ask_cut_right}
use Rattle.adb_sync.proofs.laws.ask_cut_is_right.Goals as goal

pub returns : goal.returns
returns c = ask_cut_right
