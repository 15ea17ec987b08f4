use Rattle.std.proofs.Common.{Some, reverse, refl, inl, inr, ap, ◌∙◌, arith}
use Rattle.std.proofs.lemmas.List.{length-take}
use Rattle.adb_history.specs.Machine.{state}
use Rattle.adb_server_hall.proofs.Made.{where_some}
use Rattle.adb_server_client_reader.proofs.Refusals.{fits_of, held_of_tells, room_memory, room_number, room_told}
use Rattle.adb_server_client_reader.proofs.Steps.{asked_refused, fits_less}
use Rattle.adb_server_client_reader.proofs.Turning.{done_quiet}
use Rattle.adb_server_client_reader.proofs.reader.ask.Goals as goal

pub returns-in-Ok-Bytes-clause-told : goal.returns-in-Ok-Bytes-clause-told
returns-in-Ok-Bytes-clause-told g c a es l t told left knows =
    let w = where_some _ _ _ a t (rw c.in-Ok-Bytes.field-0-is at c.in-Ok-Bytes.ensures.told) in
    let n = c.args.pass.now.pass.number in
    let number = room_number c.args.pass.now.pass c.room.new.pass.pass c.room.result c.room.ensures.pass in
    let memory = room_memory c.args.pass.now.pass c.room.new.pass.pass _ c.in-Ok-Bytes.ensures.pass in
    (rw (number, memory) at c.feed.ensures.told) a es l (w.1 ∙ ap Some w.2.same) told left
    (fits_less n _ c.in-Ok-Bytes.n (state (reverse es))
    (fits_of n c.in-Ok-Bytes.n (reverse es) told.lawful.legal (room_told _ _ a w.0 es told w.2))
    (omega (arith, length-take c.min-most.result c.args.buffer.now)))

pub returns-in-Ok-Later-clause-told : goal.returns-in-Ok-Later-clause-told
returns-in-Ok-Later-clause-told g c a es l t told left knows =
    let w = where_some _ _ _ a t (rw c.in-Ok-Later.field-0-is at c.in-Ok-Later.ensures.told) in
    let memory = room_memory c.args.pass.now.pass c.room.new.pass.pass _ c.in-Ok-Later.ensures.pass in
    rw c.stop.ensures (done_quiet _ es l _ _ a (w.1 ∙ ap Some w.2.same) (held_of_tells a es told) left refl (omega arith) refl (inl memory)
    (inr (inl (room_told _ _ a w.0 es told w.2))))

pub returns-in-Ok-Shut-clause-told : goal.returns-in-Ok-Shut-clause-told
returns-in-Ok-Shut-clause-told g c a es l t told left knows =
    let w = where_some _ _ _ a t (rw c.in-Ok-Shut.field-0-is at c.in-Ok-Shut.ensures.told) in
    let memory = room_memory c.args.pass.now.pass c.room.new.pass.pass _ c.in-Ok-Shut.ensures.pass in
    rw c.stop-in-Ok-Shut.ensures (done_quiet _ es l _ _ a (w.1 ∙ ap Some w.2.same) (held_of_tells a es told) left refl (omega arith) refl
    (inl memory) (inl (room_told _ _ a w.0 es told w.2)))

pub returns-in-Err-clause-told : goal.returns-in-Err-clause-told
returns-in-Err-clause-told g c a es l t told left knows =
    let w = where_some _ _ _ a t c.in-Err.ensures.told in
    rw c.stop-in-Err.ensures (asked_refused _ es l _ _ c.in-Err.field-0 a w.0 c.args.pass.now.pass c.room.new.pass.pass w.1 told w.2
    c.in-Err.ensures.pass refl left refl (omega arith) refl refl)
