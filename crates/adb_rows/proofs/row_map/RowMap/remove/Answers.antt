use Rattle.std.proofs.Common.{None, ap, ◌∙◌}
use Rattle.adb_outside.specs.Tables.{without}
use Rattle.adb_outside.proofs.TableLaws.{puts_is}
use Rattle.adb_rows.specs.Slots.{rows_of}
use Rattle.adb_rows.proofs.Places.{rows_rise}
use Rattle.adb_rows.proofs.row_map.RowMap.remove.Goals as goal

pub returns-clause-entries : goal.returns-clause-entries
returns-clause-entries g c =
    let old = c.self.inside.shelf.slots.items in
    let new = c.remove.new.self.slots.items in
    let rises = rows_rise 0 old c.self.invariant.rises in
    puts_is c.args.id.now None (rows_of old) (rows_of new) rises (rows_rise 0 new c.remove.ensures.sound.rises) c.remove.ensures.puts
    ∙ ap (λ (t : _). without c.args.id.now t.entries) c.self.view_is
