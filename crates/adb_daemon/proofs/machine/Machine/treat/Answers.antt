use Rattle.std.proofs.Common.{rules, ◌∙◌, sym}
use Rattle.adb_daemon.specs.Behind.{setting_of}
use Rattle.adb_daemon.proofs.Settling.{where_ok}
use Rattle.adb_daemon.proofs.Machines.{serves}
use Rattle.adb_daemon.proofs.machine.Machine.treat.Goals as goal

pub returns-clause-ok : goal.returns-clause-ok
returns-clause-ok c = where_ok c.serve.result c.serve.ensures.ok (λ held. λ files d taken stands.
    serves (setting_of c.args.self.now.most c.args.self.now.credit files) d c.args.packet.now taken c.args.self.now
    stands c.in-Some.link c.serve.new.self
    (search rules) (sym c.get.ensures.link ∙ c.in-Some.is) (held d.serving taken stands.holds))
