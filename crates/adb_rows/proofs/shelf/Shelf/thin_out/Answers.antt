use Rattle.std.proofs.Common.{arith}
use Rattle.adb_rows.proofs.Changes.{count_within}
use Rattle.adb_rows.proofs.shelf.Shelf.thin_out.Goals as goal

pub overflow_add-self : goal.overflow_add-self
overflow_add-self g c =
    let slots = c.args.self.now.slots in
    omega (arith, c.requires.live, count_within slots.items, slots.ok.0, slots.small)
