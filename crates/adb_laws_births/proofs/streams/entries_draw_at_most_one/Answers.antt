use Rattle.adb_laws_births.proofs.Laws.{draws_at_most_one}
use Rattle.adb_laws_births.proofs.streams.entries_draw_at_most_one.Goals as goal

pub returns : goal.returns
returns c = draws_at_most_one
