use Rattle.std.proofs.Common.{List, length, Some, ap, arith, subst, sym}
use Rattle.adb_outside.specs.Tables.{Puts}
use Rattle.adb_rows.specs.declared.slots.Slot.{Slot}
use Rattle.adb_rows.specs.Slots.{RisesFrom, rows_of}
use Rattle.adb_rows.proofs.Places.{fits_none, fits_within}
use Rattle.adb_rows.proofs.Changes.{add_count, add_puts, add_rises, count_within}
use Rattle.adb_rows.proofs.shelf.Shelf.add.Goals as goal

pub insert-requires : goal.insert-requires
insert-requires g c =
    let slots = c.args.self.now.slots in
    omega (arith, fits_within c.args.number slots.items c.args.place c.requires.place, slots.ok.0)

pub overflow_add-self : goal.overflow_add-self
overflow_add-self g c =
    let slots = c.args.self.now.slots in
    omega (arith, c.requires.sound.live, count_within slots.items, slots.ok.0, slots.small)

pub returns-clause-sound : goal.returns-clause-sound
returns-clause-sound g c =
    let slots = c.args.self.now.slots.items in
    let row = Some c.args.row in
    record {
      rises =
          subst (RisesFrom 0) (sym c.in_ok-insert.ensures.items)
          (add_rises c.args.number row 0 slots c.args.place (omega arith) c.requires.sound.rises c.requires.place);
      live =
          let shown = ap (λ (l : List (Slot _)). length (rows_of l)) c.in_ok-insert.ensures.items in
          omega (arith, c.requires.sound.live, add_count c.args.number row slots c.args.place, shown);
    }

pub returns-clause-puts : goal.returns-clause-puts
returns-clause-puts g c =
    let slots = c.args.self.now.slots.items in
    subst (λ (l : List (Slot _)). Puts c.args.number (Some c.args.row) (rows_of slots) (rows_of l)) (sym c.in_ok-insert.ensures.items)
    (add_puts c.args.number (Some c.args.row) slots c.args.place c.requires.sound.rises c.requires.place)

pub returns-clause-absent : goal.returns-clause-absent
returns-clause-absent g c = fits_none 0 c.args.number c.args.self.now.slots.items c.args.place c.requires.sound.rises c.requires.place

pub returns-in_err-insert-clause-absent : goal.returns-in_err-insert-clause-absent
returns-in_err-insert-clause-absent g c =
    fits_none 0 c.args.number c.args.self.now.slots.items c.args.place c.requires.sound.rises c.requires.place
