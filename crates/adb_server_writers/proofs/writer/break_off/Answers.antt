use Rattle.std.proofs.Common.{refl}
use Rattle.adb_desk.specs.declared.act.Half.TheVariants.{Client, Link}
use Rattle.adb_server_writers.specs.Writing.{side_of}
use Rattle.adb_server_writers.proofs.Sides.{side_is}
use Rattle.adb_server_writers.proofs.Writings.{where_ends}
use Rattle.adb_server_writers.proofs.writer.break_off.Goals as goal

pub returns-in-Client-clause-told : goal.returns-in-Client-clause-told
returns-in-Client-clause-told g c =
    let n = c.args.pass.now.number in
    rw c.in-Client.is
    (where_ends (side_of Client n) (side_is Client n) c.args.cause _ _ c.submit.result _ _ c.submit.ensures.pass
    (c.submit.ensures.memory refl)
    c.submit.ensures.told)

pub returns-in-Link-clause-told : goal.returns-in-Link-clause-told
returns-in-Link-clause-told g c =
    let n = c.args.pass.now.number in
    rw c.in-Link.is
    (where_ends (side_of Link n) (side_is Link n) c.args.cause _ _ c.submit-in-Link.result _ _ c.submit-in-Link.ensures.pass
    (c.submit-in-Link.ensures.memory refl) c.submit-in-Link.ensures.told)
