use Rattle.std.proofs.Common.{arith, length, sym, ◌-◌}
use Rattle.std.proofs.lemmas.Bool.{ltb-true}
use Rattle.std.proofs.lemmas.Option.{slice_get_within}
use Rattle.adb_rows.proofs.Places.{fits_behind}
use Rattle.adb_rows.proofs.slots.is_behind.Goals as goal

pub returns-in-Some : goal.returns-in-Some
returns-in-Some g c = λ behind.
    let slots = c.args.slots.now in
    let slot = c.in-Some.slot.now in
    let within = slice_get_within slots (length slots - 1) slot (sym c.in-Some.ensures.value) in
    fits_behind 0 c.args.number slots (length slots - 1) slot c.requires (omega (arith, within))
    c.in-Some.ensures.value (ltb-true _ _ behind)
