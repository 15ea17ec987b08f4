use Rattle.std.proofs.Common.{◌∙◌}
use Rattle.adb_commands.proofs.Loads.{part_out}
use Rattle.adb_commands.proofs.generating.generate.Goals as goal

pub returns-clause-writes : goal.returns-clause-writes
returns-clause-writes g c = λ had has.
    part_out _ c.as_slice.result.now had c.in-Failed.taken _
    (c.as_slice.ensures ∙ c.in_ok-lines.ensures.lines)
    (c.in-Failed.ensures.told had has)
