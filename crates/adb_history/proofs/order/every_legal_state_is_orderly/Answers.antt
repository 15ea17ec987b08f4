use Rattle.adb_history.proofs.OrderlyStates.{orderly}
use Rattle.adb_history.proofs.order.every_legal_state_is_orderly.Goals as goal

pub returns : goal.returns
returns c = orderly
