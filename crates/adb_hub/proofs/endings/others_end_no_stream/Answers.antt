use Rattle.adb_hub.proofs.Endless.{none_ends}
use Rattle.adb_hub.proofs.endings.others_end_no_stream.Goals as goal

pub returns : goal.returns
returns c = λ e h legal other. none_ends e h legal other
