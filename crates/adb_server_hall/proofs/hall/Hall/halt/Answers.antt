use Rattle.std.proofs.Common.{◌∙◌}
use Rattle.adb_server_hall.proofs.Marked.{or_unmarked}
use Rattle.adb_server_hall.proofs.hall.Hall.halt.Goals as goal

pub returns-clause-mark : goal.returns-clause-mark
returns-clause-mark g c = c.ask.ensures.mark ∙ or_unmarked _
