use Rattle.std.proofs.Common.{rules, ◌≡◌}
use Rattle.adb_wire.specs.Slicing.{need_of}
use Rattle.adb_server_device_reader.proofs.Fronts.{front_is_slice}
use Rattle.adb_server_device_reader.proofs.packets.Front.whole.Goals as goal

pub returns-then-missing-eq0-clause-slice : goal.returns-then-missing-eq0-clause-slice
returns-then-missing-eq0-clause-slice c =
    let none : need_of c.self.inside.bytes.items ≡ 0 = search rules in
    rw c.as_slice.ensures (front_is_slice c.self.inside.head c.self.inside.bytes c.self.invariant none)
