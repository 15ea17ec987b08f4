use Rattle.adb_laws_worlds.proofs.Ended.{closed_gave_all}
use Rattle.adb_laws_worlds.proofs.together.closed_streams_gave_their_answer.Goals as goal

pub returns : goal.returns
returns c = λ setting history short legal joined. closed_gave_all setting short history legal joined
