use Rattle.std.proofs.Common.{◌/◌}
use Rattle.adb_hub_tables.proofs.Grouping.{high_below}
use Rattle.adb_hub_tables.proofs.MarkedRows.{alone}
use Rattle.adb_hub_tables.proofs.marks.Marks.keep_only.Goals as goal

pub invariant_of-self : goal.invariant_of-self
invariant_of-self c = (
  λ which. alone (c.args.number / 64) (high_below c.args.number c.ranges.number.fits) (c.self.invariant.0 which) c.keep_only-2.ensures
      c.keep_only.new.marks.entries c.keep_only.ensures,
  tt,
)
