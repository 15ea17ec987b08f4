use Rattle.adb_laws_model_device.proofs.Opened.{answers_opens}
use Rattle.adb_laws_model_device.proofs.laws.opens_are_answered.Goals as goal

pub returns : goal.returns
returns c = λ setting. answers_opens setting
