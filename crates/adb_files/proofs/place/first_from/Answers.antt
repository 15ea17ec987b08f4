use Rattle.adb_files.proofs.Places.{begins_where_stands}
use Rattle.adb_files.proofs.place.first_from.Goals as goal

pub returns-in-Ok : goal.returns-in-Ok
returns-in-Ok c = begins_where_stands c.in-Ok.ensures
