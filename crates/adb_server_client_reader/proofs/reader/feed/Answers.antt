use Rattle.std.proofs.Common.{Some, None, reverse, length, sym, refl, ap, ◌∙◌, arith}
use Rattle.std.proofs.lemmas.List.{take-append-drop, length-take}
use Rattle.adb_outside.specs.declared.kinds.Cause.TheVariants.{Eof, Fault}
use Rattle.adb_history.specs.Machine.{state}
use Rattle.adb_server_client_reader.proofs.Refusals.{held_of_tells}
use Rattle.adb_server_client_reader.proofs.Turning.{done_finished}
use Rattle.adb_server_client_reader.proofs.Steps.{fits_less}
use Rattle.adb_server_client_reader.proofs.reader.feed.Goals as goal

pub returns-in-Bytes-clause-told : goal.returns-in-Bytes-clause-told
returns-in-Bytes-clause-told g c a es l t told left fits =
    let r = c.in-Bytes.ensures.told l left in
    let fit = fits_less c.args.pass.now.pass.number _ (length c.args.into.now) (state (reverse es)) fits
    (omega (arith, length-take c.in-Bytes.n c.read.new.into, c.in-Bytes.ensures.fits, c.read.auto)) in
    rw (c.in-Bytes.ensures.counts.stands refl)
    (c.hand_in-next.ensures.told None _ _ a es l _ t told r.rest (rw r.front (sym (take-append-drop c.in-Bytes.n l))) fit)

pub returns-in-End-clause-told : goal.returns-in-End-clause-told
returns-in-End-clause-told g c a es l t told left fits =
    let r = c.in-End.ensures.told l left in
    let x = c.finish.ensures.told a es t (held_of_tells a es told) in
    rw c.stop.ensures (done_finished _ Eof es l _ _ _ x (r.1 ∙ ap Some (sym r.0)) refl (omega arith)
    (r.0, c.in-End.ensures.counts.stands refl, x.memory))

pub returns-in-Failed-clause-told : goal.returns-in-Failed-clause-told
returns-in-Failed-clause-told g c a es l t told left fits =
    let x = c.finish-in-Failed.ensures.told a es t (held_of_tells a es told) in
    rw c.stop-in-Failed.ensures (done_finished _ Fault es l _ _ _ x (c.in-Failed.ensures.told l left) refl (omega arith)
    (c.in-Failed.ensures.counts.fault refl, x.memory))
