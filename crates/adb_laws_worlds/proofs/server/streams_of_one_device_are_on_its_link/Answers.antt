use Rattle.adb_laws_worlds.proofs.Single.{live_on_first}
use Rattle.adb_laws_worlds.proofs.server.streams_of_one_device_are_on_its_link.Goals as goal

pub returns : goal.returns
returns c = live_on_first
