use Rattle.std.proofs.Common.{length, ◌∙◌, ap}
use Rattle.adb_wire.specs.Header.{head_at}
use Rattle.adb_wire.specs.Slicing.{need_of}
use Rattle.adb_server_device_reader.proofs.Fronts.{front_long}
use Rattle.adb_server_device_reader.proofs.packets.Front.share.Goals as goal

pub new-requires : goal.new-requires
new-requires c =
    record {
      read = ap head_at c.in-Ok.ensures.ok ∙ c.self.invariant.read;
      long = ap length c.in-Ok.ensures.ok ∙ front_long c.self.inside.head c.self.inside.bytes c.self.invariant
          (ap need_of c.self.view_is ∙ c.requires);
    }
