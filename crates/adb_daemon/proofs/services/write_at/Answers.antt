use Rattle.std.specs.Prelude.{length, ◌++◌, IfOk}
use Rattle.std.proofs.Common.{rules, subst}
use Rattle.adb_device_streams.specs.Service.{came_over}
use Rattle.adb_device_streams.specs.Stream.{Row, StandsFor, Settles, row_took, ack_bytes}
use Rattle.adb_device_streams.specs.declared.writes.Outgoing.{Outgoing}
use Rattle.adb_daemon.proofs.Settling.{settles_at}
use Rattle.adb_daemon.proofs.services.write_at.Goals as goal

pub returns-clause-settles : goal.returns-clause-settles
returns-clause-settles c =
    let p = c.args.packet.now in
    settles_at c.args.link p.arg1 (row_took (came_over p.payload c.args.files.now))
    (λ row. c.args.due.now.bytes ++ ack_bytes c.args.link.sums p.arg1 row.host row.flow (length p.payload)) c.answer_write.new.due.bytes
    c.answer_write.result c.args.rows.now.entries (c.get_mut.follows.lender c.answer_write.new.stream).entries c.unwrap-stream.result.now
    c.answer_write.new.stream (search rules) (record { here = search rules; others = search rules })
    (rw (← c.as_slice-payload.ensures)
    (subst (λ (o : Outgoing). IfOk c.answer_write.result
    (λ done. (row : Row) → StandsFor row c.unwrap-stream.result.now
    → Settles o.sums o.own o.most (row_took (came_over c.as_slice-payload.result.now c.args.files.now) row) c.answer_write.new.stream
    (c.args.due.now.bytes ++ ack_bytes o.sums o.own row.host row.flow (length c.as_slice-payload.result.now))
    c.answer_write.new.due.bytes done))
    c.outgoing.ensures c.answer_write.ensures.settles))
