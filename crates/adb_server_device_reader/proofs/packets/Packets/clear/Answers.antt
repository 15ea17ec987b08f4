use Rattle.std.proofs.Common.{subst, List, ℕ}
use Rattle.adb_server_device_reader.proofs.Fronts.{Clears, clears}
use Rattle.adb_server_device_reader.proofs.packets.Packets.clear.Goals as goal

pub returns-clause-stands : goal.returns-clause-stands
returns-clause-stands c =
    subst (λ (old : List ℕ). Clears old c.clear.new.self) c.self.view_is
    (clears c.self.inside.own c.self.inside.slicer c.clear.new.self c.self.invariant c.clear.ensures.value c.clear.ensures.stands)
