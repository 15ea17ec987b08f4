use Rattle.adb_daemon.proofs.Rules.{streams_write}
use Rattle.adb_daemon.proofs.laws.streams_write_their_answers.Goals as goal

pub returns : goal.returns
returns c = λ setting packets own some. streams_write own some setting packets
