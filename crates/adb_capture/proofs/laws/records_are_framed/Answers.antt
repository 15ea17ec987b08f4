use Rattle.adb_capture.proofs.Fronts.{framing, more_is_short}
use Rattle.adb_capture.proofs.laws.records_are_framed.Goals as goal

pub returns : goal.returns
returns c = record { framing = framing; short = more_is_short }
