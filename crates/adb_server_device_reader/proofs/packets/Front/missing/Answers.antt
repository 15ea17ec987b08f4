use Rattle.std.proofs.Common.{◌∙◌, ap}
use Rattle.adb_wire.specs.Slicing.{need_of}
use Rattle.adb_server_device_reader.proofs.Fronts.{front_need}
use Rattle.adb_server_device_reader.proofs.packets.Front.missing.Goals as goal

pub returns : goal.returns
returns c = rw c.len.ensures.value (front_need c.self.inside.head c.self.inside.bytes c.self.invariant ∙ ap need_of c.self.view_is)
