use Rattle.adb_laws_worlds.proofs.Greeted.{greets_links}
use Rattle.adb_laws_worlds.proofs.server.links_are_greeted.Goals as goal

pub returns : goal.returns
returns c = greets_links
