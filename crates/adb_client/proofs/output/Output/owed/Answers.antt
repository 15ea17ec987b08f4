use Rattle.std.proofs.Common.{ap, length, arith}
use Rattle.adb_client.specs.Output.{Outgoing}
use Rattle.adb_client.proofs.Weaving.{woven_length}
use Rattle.adb_client.proofs.output.Output.owed.Goals as goal

pub returns : goal.returns
returns c =
    let all = woven_length c.self.inside.slices.items c.self.inside.own.items in
    omega (arith, all, c.self.invariant.counted.bytes, c.len.ensures.value, ap (λ (o : Outgoing). length o.due) c.self.view_is)
