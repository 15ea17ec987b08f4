use Rattle.adb_laws_worlds.proofs.Unclosed.{sent_no_close}
use Rattle.adb_laws_worlds.proofs.server.streams_that_live_sent_no_close.Goals as goal

pub returns : goal.returns
returns c = sent_no_close
