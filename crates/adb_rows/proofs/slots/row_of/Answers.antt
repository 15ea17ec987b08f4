use Rattle.std.proofs.Common.{arith, ◌∙◌}
use Rattle.adb_rows.proofs.Places.{row_there, stands_row, stands_within}
use Rattle.adb_rows.proofs.slots.row_of.Goals as goal

pub offset_bounds-slots-place : goal.offset_bounds-slots-place
offset_bounds-slots-place g c = omega (arith, stands_within c.args.number c.args.slots.now c.in_ok-place.place c.in_ok-place.ensures.0)

pub bounds-slots-place : goal.bounds-slots-place
bounds-slots-place g c = stands_within c.args.number c.args.slots.now c.in_ok-place.place c.in_ok-place.ensures.0

pub returns : goal.returns
returns g c =
    let slots = c.args.slots.now in
    let place = c.in_ok-place.place in
    let stands = c.in_ok-place.ensures.0 in
    c.as_ref.ensures.value
    ∙ (row_there place slots c.index-slots-place.result (stands_within c.args.number slots place stands)
    ∙ stands_row 0 c.args.number slots place c.requires stands)
