use Rattle.std.proofs.Common.{◌≡◌, ◌∙◌, ap, refl, None}
use Rattle.std.proofs.lemmas.List.{get_or_read}
use Rattle.adb_rows.specs.declared.slots.Slot.{Slot}
use Rattle.adb_rows.specs.Lending.{slot_at}
use Rattle.adb_rows.proofs.Places.{row_there}
use Rattle.adb_rows.proofs.shelf.Shelf.lend.Goals as goal

pub returns : goal.returns
returns g c =
    let slots = c.args.self.now.slots.items in
    let read : c.index_mut.result.now ≡ slot_at c.args.self.now c.args.place =
    get_or_read slots _ _ c.requires c.index_mut.ensures.value (record { number = 0; row = None }) in (
      rw read refl,
      record {
        writes_back = tt;
        value =
            c.as_mut.ensures.value
            ∙ (ap (λ (s : Slot _). s.row) read ∙ row_there c.args.place slots (record { number = 0; row = None }) c.requires);
      },
    )
