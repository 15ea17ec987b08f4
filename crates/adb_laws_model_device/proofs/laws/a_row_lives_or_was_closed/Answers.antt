use Rattle.adb_laws_model_device.proofs.Lives.{lives_or_closed}
use Rattle.adb_laws_model_device.proofs.laws.a_row_lives_or_was_closed.Goals as goal

pub returns : goal.returns
returns c = λ setting. lives_or_closed setting
