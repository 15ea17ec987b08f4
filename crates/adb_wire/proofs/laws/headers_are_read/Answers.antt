use Rattle.adb_wire.proofs.HeaderLaws.{head_again}
use Rattle.adb_wire.proofs.laws.headers_are_read.Goals as goal

pub returns : goal.returns
returns c = λ head more fits. head_again head more fits
