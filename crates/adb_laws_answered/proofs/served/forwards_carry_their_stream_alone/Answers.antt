use Rattle.adb_laws_answered.proofs.ServedLaws.{stream_alone}
use Rattle.adb_laws_answered.proofs.served.forwards_carry_their_stream_alone.Goals as goal

pub returns : goal.returns
returns c = stream_alone
