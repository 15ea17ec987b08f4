use Rattle.std.proofs.Common.{sym}
use Rattle.std.proofs.lemmas.Bool.{eqb-true, ltb-true}
use Rattle.adb_rows.proofs.Places.{stands_got}
use Rattle.adb_rows.proofs.slots.stands_at.Goals as goal

pub returns-in-Some : goal.returns-in-Some
returns-in-Some g c = λ same.
    let slots = c.args.slots.now in let slot = c.in-Some.slot.now in let got = c.in-Some.ensures.lookup in
    stands_got c.args.number slots c.args.place slot (ltb-true _ _ (sym got.0)) got.1 (eqb-true slot.number c.args.number same)
