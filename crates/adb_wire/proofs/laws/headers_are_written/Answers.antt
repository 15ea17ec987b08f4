use Rattle.adb_wire.proofs.HeaderLaws.{head_spelled}
use Rattle.adb_wire.proofs.laws.headers_are_written.Goals as goal

pub returns : goal.returns
returns c = λ bytes head fits h e. head_spelled bytes head h fits e
