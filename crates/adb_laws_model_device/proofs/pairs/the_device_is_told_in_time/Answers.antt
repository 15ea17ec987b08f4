use Rattle.adb_laws_model_device.proofs.Told.{told_in_time}
use Rattle.adb_laws_model_device.proofs.pairs.the_device_is_told_in_time.Goals as goal

pub returns : goal.returns
returns c = λ owes history plain legal paired all. told_in_time owes plain history legal paired all
