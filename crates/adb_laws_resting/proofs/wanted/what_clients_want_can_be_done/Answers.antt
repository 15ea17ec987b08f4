use Rattle.adb_laws_resting.proofs.WantedStates.{can_be_done}
use Rattle.adb_laws_resting.proofs.wanted.what_clients_want_can_be_done.Goals as goal

pub returns : goal.returns
returns c = can_be_done
