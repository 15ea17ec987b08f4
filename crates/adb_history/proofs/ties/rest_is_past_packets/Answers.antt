use Rattle.adb_history.proofs.Received.{all_rest_past_packets}
use Rattle.adb_history.proofs.ties.rest_is_past_packets.Goals as goal

pub returns : goal.returns
returns c = all_rest_past_packets
