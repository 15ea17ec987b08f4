use Rattle.adb_world.proofs.Files.{no_files}
use Rattle.adb_world.proofs.laws.new_worlds_have_no_files.Goals as goal

pub returns : goal.returns
returns c = λ parts runs none.
    no_files parts runs (c.sessions_ask_for_services.ensures runs.history runs.holds.lawful.legal runs.holds.asks) none
