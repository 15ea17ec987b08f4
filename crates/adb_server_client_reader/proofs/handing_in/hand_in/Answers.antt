use Rattle.std.proofs.Common.{length, reverse, refl, arith}
use Rattle.adb_server_hall.proofs.Made.{tells_more, where_some}
use Rattle.adb_server_client_reader.proofs.Refusals.{submit_number, told_memory}
use Rattle.adb_server_client_reader.proofs.Steps.{handed_refused}
use Rattle.adb_server_client_reader.proofs.handing_in.hand_in.Goals as goal

pub returns-in-Ok-clause-told : goal.returns-in-Ok-clause-told
returns-in-Ok-clause-told g c before after n a es l rest t told left is fits =
    let piece = c.args.piece.now in
    let number = submit_number c.args.pass.now.pass c.read.new.pass.pass (length piece) c.read.result c.read.ensures.pass in
    let memory = told_memory c.args.pass.now.pass c.read.new.pass.pass (length piece) c.in-Ok.progress c.in-Ok.ensures.pass in
    let w = where_some _ _ _ a t c.in-Ok.ensures.told in
    (rw (number, memory) at c.settle.ensures.told) before after n w.0 es piece l rest w.1 (tells_more _ a w.0 es told w.2.0)
    (w.2.1 (reverse es) told.lawful) left is

pub returns-in-Err-clause-told : goal.returns-in-Err-clause-told
returns-in-Err-clause-told g c before after n a es l rest t told left is fits =
    let piece = c.args.piece.now in
    let number = submit_number c.args.pass.now.pass c.read.new.pass.pass (length piece) c.read.result c.read.ensures.pass in
    let w = where_some _ _ _ a t c.in-Err.ensures.told in
    handed_refused _ es piece l rest _ _ c.in-Err.error a w.0 _ c.args.pass.now.pass c.read.new.pass.pass w.1 told
    fits w.2 c.in-Err.ensures.pass refl
    (rw number at c.give_up.ensures.told) c.give_up.ensures.starved refl left is refl (omega arith)
