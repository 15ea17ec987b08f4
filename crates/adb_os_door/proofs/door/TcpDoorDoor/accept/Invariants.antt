use Rattle.std.proofs.Common.{◌≡◌}
use Rattle.adb_os_door.proofs.door.TcpDoorDoor.accept.Given as goal

abbrev pub invariant-loop : goal.invariant-loop
invariant-loop g l = l.self.faults ≡ l.fn.self.faults
