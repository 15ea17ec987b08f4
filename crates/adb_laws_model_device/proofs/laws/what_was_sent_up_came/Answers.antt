use Rattle.adb_laws_model_device.proofs.Came.{takes_carried}
use Rattle.adb_laws_model_device.proofs.laws.what_was_sent_up_came.Goals as goal

pub returns : goal.returns
returns c = λ setting history word legal joined. takes_carried setting word history legal joined
