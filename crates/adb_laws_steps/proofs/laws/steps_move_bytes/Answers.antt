use Rattle.adb_laws_steps.proofs.Moved.{steps_move}
use Rattle.adb_laws_steps.proofs.laws.steps_move_bytes.Goals as goal

pub returns : goal.returns
returns c = λ before more steps. steps_move before more steps
