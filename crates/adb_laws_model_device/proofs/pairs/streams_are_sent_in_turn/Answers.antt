use Rattle.adb_laws_model_device.proofs.Turns.{sent_in_turn}
use Rattle.adb_laws_model_device.proofs.pairs.streams_are_sent_in_turn.Goals as goal

pub returns : goal.returns
returns c = λ owes history plain legal paired. sent_in_turn owes plain history legal paired
