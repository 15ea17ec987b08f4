use Rattle.adb_hub_tables.proofs.Grouping.{unmark_grouped}
use Rattle.adb_hub_tables.proofs.Seeing.{unmarked_last}
use Rattle.adb_hub_tables.proofs.marks.Marks.unmark.Goals as goal

pub invariant_of-self : goal.invariant_of-self
invariant_of-self c = (
  unmark_grouped c.args.number c.ranges.number.fits c.self.invariant.0 c.args.which c.unmark.ensures.block,
  c.once_unmarked-self-inside.ensures c.self.inside.blocks.entries c.unmark.new.marks.entries c.self.invariant.1
      (unmarked_last c.args.number c.args.which c.unmark.ensures.block),
)
