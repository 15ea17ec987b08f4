use Rattle.adb_hub_tables.proofs.MarkedRows.{names}
use Rattle.adb_hub_tables.proofs.touched_map.TouchedMap.next_touched.Goals as goal

pub invariant_of-self : goal.invariant_of-self
invariant_of-self g c =
    names c.name_first.result c.name_first.ensures.fits c.name_first.ensures.nobody c.name_first.ensures.named c.self.invariant
