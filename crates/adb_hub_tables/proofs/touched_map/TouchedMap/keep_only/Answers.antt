use Rattle.adb_hub_tables.proofs.MarkedRows.{alone}
use Rattle.adb_hub_tables.proofs.touched_map.TouchedMap.keep_only.Goals as goal

pub invariant_of-self : goal.invariant_of-self
invariant_of-self g c = alone c.args.id c.ranges.id.fits c.self.invariant c.keep_only.ensures c.keep_row.new.rows.entries c.keep_row.ensures
