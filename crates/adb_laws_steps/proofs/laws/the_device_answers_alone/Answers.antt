use Rattle.adb_laws_steps.proofs.Answering.{answers_alone}
use Rattle.adb_laws_steps.proofs.laws.the_device_answers_alone.Goals as goal

pub returns : goal.returns
returns c = λ setting. answers_alone setting
