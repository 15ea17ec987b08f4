use Rattle.adb_hub_tables.proofs.MarkedRows.{has_left}
use Rattle.adb_hub_tables.proofs.touched_map.TouchedMap.remove.Goals as goal

pub invariant_of-self : goal.invariant_of-self
invariant_of-self g c =
    has_left c.args.id.now c.leave.ensures.fits c.self.invariant c.self.inside.watched c.leave.ensures.left
    c.take_row-row.new.rows.entries c.take_row-row.ensures.puts.others c.take_row-row.ensures.puts.here
