use Rattle.std.proofs.Common.{rules}
use Rattle.adb_daemon.specs.Serving.{on_write}
use Rattle.adb_daemon.specs.Held.{view_of}
use Rattle.adb_device_streams.proofs.Syncing.{at_err}
use Rattle.adb_daemon.proofs.Settling.{redrawn}
use Rattle.adb_daemon.proofs.Packets.{write_goes, write_ends, cut_write}
use Rattle.adb_daemon.proofs.services.Services.write.Goals as goal

pub returns-then-done-clause-ok : goal.returns-then-done-clause-ok
returns-then-done-clause-ok c = λ s taken held.
    redrawn (on_write c.args.link c.args.packet.now s) taken _ c.remove.new.self.drawn c.remove.ensures.drawn
    (write_ends c.args.link c.args.packet.now s taken (view_of c.args.self.now) held (search rules)
    c.write_at.new.rows.entries c.write_at.new.due.bytes
    c.write_at.new.files c.remove.new.self.rows.entries c.remove.new.self.hosts.entries c.in_ok-done.done c.if-done.true
    (record { settles = c.in_ok-done.ensures.settles; fed = c.in_ok-done.ensures.files }) c.remove.ensures.row c.remove.ensures.host)

pub returns-else-done-clause-ok : goal.returns-else-done-clause-ok
returns-else-done-clause-ok c = λ s taken held.
    write_goes c.args.link c.args.packet.now s taken (view_of c.args.self.now) held (search rules)
    c.write_at.new.rows.entries c.write_at.new.due.bytes
    c.write_at.new.files c.in_ok-done.done c.if-done.false
    (record { settles = c.in_ok-done.ensures.settles; fed = c.in_ok-done.ensures.files })

pub returns-in_err-done-clause-err : goal.returns-in_err-done-clause-err
returns-in_err-done-clause-err c =
    at_err _ c.from_residual.result
    (λ s taken held. cut_write c.args.link c.args.packet.now s taken (view_of c.args.self.now) held (search rules)
    c.write_at.new.files c.in_err-done.ensures.front)
