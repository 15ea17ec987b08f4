use Rattle.std.proofs.Common.{◌≡◌, ◌⊎◌, inl, inr, rules}
use Rattle.adb_daemon.specs.Held.{view_of}
use Rattle.adb_daemon.proofs.Closes.{closes}
use Rattle.adb_daemon.proofs.services.Services.close.Goals as goal
use Rattle.adb_daemon.proofs.services.Services.close.Goals.{then-packet-eq0-via-then-packet-eq0}
use Rattle.adb_daemon.proofs.services.Services.close.Goals.{then-packet-eq0-via-else-packet-eq0+then-packet-host}

pub returns-then-packet-eq0-clause-holds : goal.returns-then-packet-eq0-clause-holds
returns-then-packet-eq0-clause-holds c = λ s taken held.
    let names : (c.args.packet.now.arg0 ≡ 0) ⊎ (c.args.packet.now.arg0 ≡ c.in-Some.host) = elim c.then-packet-eq0.branch [
      | then-packet-eq0-via-then-packet-eq0 w ↦ inl w.if-packet-eq0.true
      | then-packet-eq0-via-else-packet-eq0+then-packet-host w ↦ inr w.if-packet-host.true
    ] in
    closes c.args.packet.now s taken (view_of c.args.self.now) held c.in-Some.host (search rules) names c.remove.new.self.drawn
    c.remove.new.self.rows.entries c.remove.new.self.hosts.entries c.remove.ensures.drawn (c.remove.ensures.row, c.remove.ensures.host)
