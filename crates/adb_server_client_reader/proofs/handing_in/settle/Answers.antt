use Rattle.std.proofs.Common.{refl, arith}
use Rattle.adb_server_hall.proofs.Made.{where_some}
use Rattle.adb_server_client_reader.proofs.Refusals.{submit_number, told_memory}
use Rattle.adb_server_client_reader.proofs.Steps.{asks, settled_bound, settled_idle, settled_refused}
use Rattle.adb_server_client_reader.proofs.handing_in.settle.Goals as goal

pub returns-in-None-clause-told : goal.returns-in-None-clause-told
returns-in-None-clause-told g c before after n a es piece l rest t told says left is =
    rw c.next_of.ensures
    (settled_idle _ es piece l rest _ _ c.args.progress a t told says c.in-None.is left is refl (omega arith) refl
    refl)

pub returns-in-Ok-clause-told : goal.returns-in-Ok-clause-told
returns-in-Ok-clause-told g c before after n a es piece l rest t told says left is =
    let x = asks _ es piece l rest _ _ _ _ c.args.progress a told says c.in-Some.is c.bind-port.ensures.told c.bind-port.ensures.failed
    c.bind-port.ensures.count left is refl in
    let b = where_some _ _ _ a t c.in-Ok.ensures.told in
    rw c.next_of-in-Ok.ensures
    (settled_bound x c.in-Ok.progress b.0 b.1 b.2
    (told_memory c.args.pass.now.pass c.bound.new.pass.pass 0 c.in-Ok.progress c.in-Ok.ensures.pass))

pub returns-in-Err-clause-told : goal.returns-in-Err-clause-told
returns-in-Err-clause-told g c before after n a es piece l rest t told says left is =
    let number = submit_number c.args.pass.now.pass c.bound.new.pass.pass 0 c.bound.result c.bound.ensures.pass in
    let x = asks _ es piece l rest _ _ _ _ c.args.progress a told says c.in-Some.is c.bind-port.ensures.told c.bind-port.ensures.failed
    c.bind-port.ensures.count left is refl in
    let b = where_some _ _ _ a t c.in-Err.ensures.told in
    settled_refused x c.in-Err.error b.0 _ c.args.pass.now.pass c.bound.new.pass.pass b.1 b.2 c.in-Err.ensures.pass refl
    (rw number at c.give_up.ensures.told) c.give_up.ensures.starved
