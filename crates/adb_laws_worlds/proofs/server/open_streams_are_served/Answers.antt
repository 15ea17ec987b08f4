use Rattle.adb_laws_worlds.proofs.Quiet.{open_are_served}
use Rattle.adb_laws_worlds.proofs.server.open_streams_are_served.Goals as goal

pub returns : goal.returns
returns c = open_are_served
