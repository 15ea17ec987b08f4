use Rattle.adb_laws_worlds.proofs.Unclosed.{heard_no_close}
use Rattle.adb_laws_worlds.proofs.server.streams_that_live_heard_no_close.Goals as goal

pub returns : goal.returns
returns c = heard_no_close
