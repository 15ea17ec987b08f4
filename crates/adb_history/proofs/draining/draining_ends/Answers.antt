use Rattle.adb_history.proofs.OrderlyStates.{orderly}
use Rattle.adb_history.proofs.Settled.{orderly_is_calm, calm_drains}
use Rattle.adb_history.specs.Machine.{state}
use Rattle.adb_history.proofs.draining.draining_ends.Goals as goal

pub returns : goal.returns
returns c = λ h legal. calm_drains h (orderly_is_calm (state h) (orderly h legal))
