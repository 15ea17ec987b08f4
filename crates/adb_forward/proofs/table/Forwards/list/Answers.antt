use Rattle.std.proofs.Common.{sym, ap, ◌∙◌}
use Rattle.adb_forward.specs.Forwards.{forward_list}
use Rattle.adb_forward.proofs.Lengths.{part_fits}
use Rattle.adb_forward.proofs.table.Forwards.list.Goals as goal

pub returns-clause-fits : goal.returns-clause-fits
returns-clause-fits c = part_fits _ c.self.invariant _ _ (c.loop-row.invariant ∙ ap forward_list (sym c.self.view_is))
