-- Every end of a stream has its cause.
use Rattle.adb_history.specs.Machine.{History, IsLegal}
use Rattle.adb_history.specs.Causes.{HasCauses}
use Rattle.adb_laws_causes.proofs.Endings.{all_by_stop, all_by_failure}
use Rattle.adb_laws_causes.proofs.LinkEnds.{all_by_peer, all_out_of_turn, all_by_loss, all_by_break}
use Rattle.adb_laws_causes.proofs.OtherCauses.{all_other}
use Rattle.adb_laws_causes.proofs.ClosedByClient.{all_by_client}
use Rattle.adb_laws_causes.proofs.Holding.{all_hold}

pub all_causes : (h : History) → IsLegal h → HasCauses h
all_causes h legal = record {
  by_client = all_by_client all_hold h legal;
  by_peer = all_by_peer h legal;
  out_of_turn = all_out_of_turn all_hold h legal;
  lost = all_by_loss h legal;
  broken = all_by_break h legal;
  failed = all_by_failure h legal;
  stopped = all_by_stop h legal;
  no_other = all_other all_hold h legal;
}
