use Rattle.adb_laws_worlds.proofs.Rows.{open_have_rows}
use Rattle.adb_laws_worlds.proofs.together.open_streams_have_rows.Goals as goal

pub returns : goal.returns
returns c = open_have_rows
