use Rattle.adb_laws_worlds.proofs.InTime.{acked_in_time}
use Rattle.adb_laws_worlds.proofs.together.okays_come_in_time.Goals as goal

pub returns : goal.returns
returns c = λ setting history word legal joined plain. acked_in_time setting word history legal joined plain
