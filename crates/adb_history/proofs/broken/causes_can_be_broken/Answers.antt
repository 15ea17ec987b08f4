use Rattle.adb_history.proofs.RefutedCauses.{by_client_refuted, by_peer_refuted, out_of_turn_refuted, lost_refuted, broken_refuted}
use Rattle.adb_history.proofs.RefutedCauses.{failed_refuted, stopped_refuted, no_other_refuted}
use Rattle.adb_history.proofs.broken.causes_can_be_broken.Goals as goal

pub returns-clause-by_client : goal.returns-clause-by_client
returns-clause-by_client c = by_client_refuted

pub returns-clause-by_peer : goal.returns-clause-by_peer
returns-clause-by_peer c = by_peer_refuted

pub returns-clause-out_of_turn : goal.returns-clause-out_of_turn
returns-clause-out_of_turn c = out_of_turn_refuted

pub returns-clause-lost : goal.returns-clause-lost
returns-clause-lost c = lost_refuted

pub returns-clause-broken : goal.returns-clause-broken
returns-clause-broken c = broken_refuted

pub returns-clause-failed : goal.returns-clause-failed
returns-clause-failed c = failed_refuted

pub returns-clause-stopped : goal.returns-clause-stopped
returns-clause-stopped c = stopped_refuted

pub returns-clause-no_other : goal.returns-clause-no_other
returns-clause-no_other c = no_other_refuted
