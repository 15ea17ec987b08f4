use Rattle.adb_laws_worlds.proofs.Replied.{replies_to_opens}
use Rattle.adb_laws_worlds.proofs.device.opens_are_replied_to.Goals as goal

pub returns : goal.returns
returns c = replies_to_opens
