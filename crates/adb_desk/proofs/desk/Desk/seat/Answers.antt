use Rattle.std.proofs.Common.{sym}
use Rattle.adb_desk.specs.Sound.{sound_of}
use Rattle.adb_desk.proofs.Seats.{few_out}
use Rattle.adb_desk.proofs.desk.Desk.seat.Goals as goal

pub seat-requires-clause-few : goal.seat-requires-clause-few
seat-requires-clause-few g c =
    few_out (record { hub = c.self.inside.hub; log = c.self.inside.log.is }) (sound_of c.self.invariant)
    (rw (sym c.self.view_is) at c.requires)
