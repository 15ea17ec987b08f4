use Rattle.adb_laws_answered.proofs.ServedLaws.{stream_reply}
use Rattle.adb_laws_answered.proofs.served.services_are_answered.Goals as goal

pub returns : goal.returns
returns c = stream_reply
