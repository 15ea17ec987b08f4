use Rattle.adb_hub_tables.proofs.MarkedRows.{dropped}
use Rattle.adb_hub_tables.proofs.marks.drop_block.Goals as goal

pub returns-clause-grouped : goal.returns-clause-grouped
returns-clause-grouped c = λ which.
    dropped c.args.high c.ranges.high.fits (c.requires.grouped which) c.forget.ensures.block c.remove.new.marks.entries
    c.remove.ensures.others c.remove.ensures.here
