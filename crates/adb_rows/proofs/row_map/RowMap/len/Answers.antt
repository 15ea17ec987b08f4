use Rattle.std.proofs.Common.{arith, subst}
use Rattle.adb_outside.specs.Tables.{IsRising}
use Rattle.adb_rows.proofs.Changes.{count_within}
use Rattle.adb_rows.proofs.Places.{rows_rise}
use Rattle.adb_rows.proofs.row_map.RowMap.len.Goals as goal

pub returns-clause-small : goal.returns-clause-small
returns-clause-small g c =
    let slots = c.self.inside.shelf.slots in
    omega (arith, c.self.invariant.live, count_within slots.items, slots.ok.0, slots.small)

pub returns-clause-ordered : goal.returns-clause-ordered
returns-clause-ordered g c =
    subst (λ (t : _). IsRising t.entries) c.self.view_is (rows_rise 0 c.self.inside.shelf.slots.items c.self.invariant.rises)
