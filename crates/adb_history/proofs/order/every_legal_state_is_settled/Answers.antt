use Rattle.adb_history.proofs.OrderlyStates.{settled}
use Rattle.adb_history.proofs.order.every_legal_state_is_settled.Goals as goal

pub returns : goal.returns
returns c = settled
