use Rattle.adb_laws_model_device.proofs.Waits.{none_waits_there}
use Rattle.adb_laws_model_device.proofs.laws.no_write_waits_at_both_ends.Goals as goal

pub returns : goal.returns
returns c = λ setting history word plain legal joined. none_waits_there setting word plain history legal joined
