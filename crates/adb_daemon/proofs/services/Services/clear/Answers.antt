use Rattle.adb_daemon.specs.Held.{view_of}
use Rattle.adb_daemon.proofs.Closes.{clears}
use Rattle.adb_daemon.proofs.services.Services.clear.Goals as goal

pub returns-clause-holds : goal.returns-clause-holds
returns-clause-holds c = λ s taken held.
    clears s taken (view_of c.args.self.now) held c.clear.new.self.drawn c.clear.new.self.rows.entries
    c.clear.new.self.hosts.entries c.clear.ensures.drawn
    c.clear.ensures.rows c.clear.ensures.hosts
