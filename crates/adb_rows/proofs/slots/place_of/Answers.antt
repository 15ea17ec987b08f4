use Rattle.std.proofs.Common.{ap, arith, sym, ◌∙◌}
use Rattle.std.specs.Prelude.{is_some}
use Rattle.adb_rows.proofs.Places.{fits_none, no_row, row_there, stands_row, stands_within}
use Rattle.adb_rows.proofs.slots.place_of.Goals as goal

pub returns-in_default : goal.returns-in_default
returns-in_default g c = fits_none 0 c.args.number c.args.slots.now c.in_default.field-0 c.requires c.in_default.ensures

pub offset_bounds-slots-place : goal.offset_bounds-slots-place
offset_bounds-slots-place g c = omega (arith, stands_within c.args.number c.args.slots.now c.in-Ok.place c.in-Ok.ensures)

pub bounds-slots-place : goal.bounds-slots-place
bounds-slots-place g c = stands_within c.args.number c.args.slots.now c.in-Ok.place c.in-Ok.ensures

pub returns-then-is_none : goal.returns-then-is_none
returns-then-is_none g c =
    let slots = c.args.slots.now in
    let place = c.in-Ok.place in
    let stands = c.in-Ok.ensures in
    let there = row_there place slots c.index-slots-place.result (stands_within c.args.number slots place stands) in
    sym (stands_row 0 c.args.number slots place c.requires stands) ∙ (sym there ∙ no_row _ c.if-is_none.ensures)

pub returns : goal.returns
returns g c =
    let slots = c.args.slots.now in
    let place = c.in-Ok.place in
    let stands = c.in-Ok.ensures in
    let there = row_there place slots c.index-slots-place.result (stands_within c.args.number slots place stands) in
    (stands, ap is_some (sym there) ∙ c.if-is_none.ensures)
