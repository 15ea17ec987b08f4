use Rattle.adb_laws_alone.proofs.ConsecutivePayloads.{are_enough}
use Rattle.adb_laws_alone.proofs.payloads.an_ended_service_takes_no_more.Goals as goal

pub returns : goal.returns
returns c = are_enough
