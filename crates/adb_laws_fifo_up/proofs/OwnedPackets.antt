-- One packet of a device leaves clients and streams to keep each other.
use Rattle.std.proofs.Common.{ℕ, []}
use Rattle.adb_wire.specs.declared.packets.Packet.{Packet}
use Rattle.adb_history.specs.Rows.{State}
use Rattle.adb_history.specs.Packets.{treat}
use Rattle.adb_history.specs.Owned.{IsOwned}
use Rattle.adb_history.specs.Linked.{IsLinked}
use Rattle.adb_history.specs.Moves.{serves}
use Rattle.adb_history.proofs.LinkMoves.{linked_moves}
use Rattle.adb_history.proofs.OwnedStep.{owned_moves}
use Rattle.adb_history.proofs.PacketMoves.{treat_on_kept}

pub treat_owned : (t : ℕ) (p : Packet) (s : State) → IsOwned s → IsOwned (treat t p s).state
treat_owned t p s owned = treat_on_kept (serves owned_moves) s [] owned (s.links t) t p

pub treat_linked : (t : ℕ) (p : Packet) (s : State) → IsLinked s → IsLinked (treat t p s).state
treat_linked t p s linked = treat_on_kept (serves linked_moves) s [] linked (s.links t) t p
