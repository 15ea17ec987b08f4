use Rattle.std.proofs.Common.{sym, ◌∙◌}
use Rattle.adb_hub_tables.proofs.Grouping.{mark_grouped, mark_full, mark_unknown}
use Rattle.adb_hub_tables.proofs.marks.mark_grouped.Goals as goal

pub returns-in_default-clause-grouped : goal.returns-in_default-clause-grouped
returns-in_default-clause-grouped c = mark_unknown c.args.number c.ranges.number.fits c.requires c.in_default.ensures.unknown

pub returns-then-lacked-clause-grouped : goal.returns-then-lacked-clause-grouped
returns-then-lacked-clause-grouped c = mark_grouped c.args.number c.ranges.number.fits c.requires c.mark.ensures.block
    c.mark-then-lacked.ensures.block

pub returns-else-lacked-clause-grouped : goal.returns-else-lacked-clause-grouped
returns-else-lacked-clause-grouped c =
    mark_full c.args.number c.ranges.number.fits c.requires c.mark.ensures.block (sym c.in-Some.ensures.lacked ∙ c.if-lacked.false)
