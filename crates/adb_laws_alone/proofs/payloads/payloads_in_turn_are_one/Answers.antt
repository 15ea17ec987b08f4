use Rattle.adb_laws_alone.proofs.ConsecutivePayloads.{are_one}
use Rattle.adb_laws_alone.proofs.payloads.payloads_in_turn_are_one.Goals as goal

pub returns : goal.returns
returns c = are_one
