use Rattle.std.proofs.Common.{List, length, ap, arith, subst, sym, ◌∙◌}
use Rattle.adb_outside.specs.Tables.{Puts}
use Rattle.adb_rows.specs.declared.slots.Slot.{Slot}
use Rattle.adb_rows.specs.Slots.{RisesFrom, count_of, rows_of}
use Rattle.adb_rows.proofs.Places.{stands_row, stands_within}
use Rattle.adb_rows.proofs.Changes.{count_within, one_at_most, put_count, put_puts, put_rises}
use Rattle.adb_rows.proofs.shelf.Shelf.swap.Goals as goal

pub overflow_add-self : goal.overflow_add-self
overflow_add-self g c =
    let slots = c.args.self.now.slots in
    omega (arith, c.requires.sound.live, count_within slots.items, slots.ok.0, slots.small, c.held.ensures, one_at_most c.args.row)

pub put_in-old-requires : goal.put_in-old-requires
put_in-old-requires g c = stands_within c.args.number c.args.self.now.slots.items c.args.place c.requires.place

pub overflow_sub-self : goal.overflow_sub-self
overflow_sub-self g c =
    let counted = put_count c.args.number c.args.self.now.slots.items c.args.place c.args.row c.requires.place in
    omega (arith, c.requires.sound.live, c.held.ensures, c.held-2.ensures, ap count_of c.put_in-old.ensures.old, counted)

pub returns-clause-sound : goal.returns-clause-sound
returns-clause-sound g c =
    let slots = c.args.self.now.slots.items in
    record {
      rises = subst (RisesFrom 0) (sym c.put_in-old.ensures.slots) (put_rises 0 slots c.args.place c.args.row c.requires.sound.rises);
      live =
          let counted = put_count c.args.number slots c.args.place c.args.row c.requires.place in
          let shown = ap (λ (l : List (Slot _)). length (rows_of l)) c.put_in-old.ensures.slots in
          omega (arith, c.requires.sound.live, c.held.ensures, c.held-2.ensures, ap count_of c.put_in-old.ensures.old, counted, shown);
    }

pub returns-clause-old : goal.returns-clause-old
returns-clause-old g c =
    c.put_in-old.ensures.old
    ∙ stands_row 0 c.args.number c.args.self.now.slots.items c.args.place c.requires.sound.rises c.requires.place

pub returns-clause-puts : goal.returns-clause-puts
returns-clause-puts g c =
    let slots = c.args.self.now.slots.items in
    subst (λ (l : List (Slot _)). Puts c.args.number c.args.row (rows_of slots) (rows_of l)) (sym c.put_in-old.ensures.slots)
    (put_puts c.args.number slots c.args.place c.args.row c.requires.sound.rises c.requires.place)
