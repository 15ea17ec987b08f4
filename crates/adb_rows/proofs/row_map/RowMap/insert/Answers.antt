use Rattle.std.proofs.Common.{Some, ap, ◌∙◌}
use Rattle.std.proofs.lemmas.Result.{on_ok_weaker}
use Rattle.adb_outside.specs.Tables.{put_at}
use Rattle.adb_outside.proofs.TableLaws.{puts_is}
use Rattle.adb_rows.specs.Slots.{rows_of}
use Rattle.adb_rows.proofs.Places.{rows_rise}
use Rattle.adb_rows.proofs.row_map.RowMap.insert.Goals as goal

pub returns-clause-entries : goal.returns-clause-entries
returns-clause-entries g c =
    let old = c.self.inside.shelf.slots.items in
    let new = c.insert.new.self.slots.items in
    let rises = rows_rise 0 old c.self.invariant.rises in
    on_ok_weaker c.insert.result (λ puts.
    puts_is c.args.id (Some c.args.row) (rows_of old) (rows_of new) rises (rows_rise 0 new c.insert.ensures.sound.rises) puts
    ∙ ap (λ (t : _). put_at c.args.id c.args.row t.entries) c.self.view_is) c.insert.ensures.puts
