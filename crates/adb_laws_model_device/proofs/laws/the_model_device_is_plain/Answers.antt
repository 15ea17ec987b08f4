use Rattle.adb_laws_model_device.proofs.Plain.{model_is_plain}
use Rattle.adb_laws_model_device.proofs.laws.the_model_device_is_plain.Goals as goal

pub returns : goal.returns
returns c = λ setting. model_is_plain setting
