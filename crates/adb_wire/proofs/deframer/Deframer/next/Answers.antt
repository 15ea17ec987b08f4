use Rattle.std.proofs.Common.{subst}
use Rattle.adb_outside.specs.Framing as framing
use Rattle.adb_wire.specs.Format.{front_of}
use Rattle.adb_wire.proofs.CuttingLaws.{item, after, gives}
use Rattle.adb_wire.proofs.Missing.{given_sound}
use Rattle.adb_wire.proofs.deframer.Deframer.next.Goals as goal

pub invariant_of-self : goal.invariant_of-self
invariant_of-self c =
    let held = c.self.inside.framer in
    (given_sound held c.next.new.self c.next.result c.self.invariant (gives held c.next.new.self c.next.result c.next.ensures)).0

pub returns-clause-given : goal.returns-clause-given
returns-clause-given c =
    gives c.args.self.now c.next.new.self c.next.result
    (subst (λ old. framing.Gives front_of item after old c.next.new.self c.next.result) c.self.view_is c.next.ensures)

pub returns-clause-sized : goal.returns-clause-sized
returns-clause-sized c =
    let held = c.self.inside.framer in
    (given_sound held c.next.new.self c.next.result c.self.invariant (gives held c.next.new.self c.next.result c.next.ensures)).1
