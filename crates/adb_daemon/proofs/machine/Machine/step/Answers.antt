use Rattle.adb_daemon.specs.Behind.{setting_of}
use Rattle.adb_daemon.proofs.Settling.{where_ok}
use Rattle.adb_daemon.proofs.Machines.{passes, steps}
use Rattle.adb_daemon.proofs.machine.Machine.step.Goals as goal

pub returns-then-self-clause-ok : goal.returns-then-self-clause-ok
returns-then-self-clause-ok c = λ files d taken stands.
    passes (setting_of c.args.self.now.most c.args.self.now.credit files) d c.args.packet.now taken c.args.self.now stands c.if-self.true

pub returns-else-is_err-clause-ok : goal.returns-else-is_err-clause-ok
returns-else-is_err-clause-ok c = where_ok c.treat-result.result c.treat-result.ensures.ok (λ treats. λ files d taken stands.
    steps (setting_of c.args.self.now.most c.args.self.now.credit files) d c.args.packet.now taken c.args.self.now
    stands c.treat-result.new.self
    c.if-self.false (treats files d taken stands))
