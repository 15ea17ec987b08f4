use Rattle.std.proofs.Common.{rules}
use Rattle.adb_daemon.specs.Serving.{on_okay}
use Rattle.adb_daemon.specs.Held.{view_of}
use Rattle.adb_daemon.proofs.Settling.{redrawn}
use Rattle.adb_daemon.proofs.Packets.{okay_goes, okay_ends}
use Rattle.adb_daemon.proofs.services.Services.okay.Goals as goal

pub returns-then-done-clause-ok : goal.returns-then-done-clause-ok
returns-then-done-clause-ok c = λ s taken held.
    redrawn (on_okay c.args.link c.args.packet.now s) taken _ c.remove.new.self.drawn c.remove.ensures.drawn
    (okay_ends c.args.link c.args.packet.now s taken (view_of c.args.self.now) held (search rules)
    c.okay_at.new.rows.entries c.okay_at.new.due.bytes
    c.remove.new.self.rows.entries c.remove.new.self.hosts.entries c.in_ok-done.done c.if-done.true
    c.in_ok-done.ensures.settles c.remove.ensures.row
    c.remove.ensures.host)

pub returns-else-done-clause-ok : goal.returns-else-done-clause-ok
returns-else-done-clause-ok c = λ s taken held.
    okay_goes c.args.link c.args.packet.now s taken (view_of c.args.self.now) held (search rules)
    c.okay_at.new.rows.entries c.okay_at.new.due.bytes
    c.in_ok-done.done c.if-done.false c.in_ok-done.ensures.settles
