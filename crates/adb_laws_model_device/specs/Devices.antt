-- A device, seen from its link: what it owes, in packets, for the packets of its host.
use Rattle.std.specs.Prelude.{ℕ, ◌+◌, ◌≡◌, ◌≢◌, ◌≤◌, true, All, List, ◌++◌}
use Rattle.adb_wire.specs.declared.packets.Packet.{Packet}
use Rattle.adb_history.specs.Births.{count_from, is_okay, is_wrte, is_open}
use Rattle.adb_laws_births.specs.Brought.{ComeFirst}
use Rattle.adb_laws_model_device.specs.Counts.{okays_to}

-- what a device owes for the packets of its host
abbrev pub RemoteEnd : Type 0
RemoteEnd = List Packet → List Packet

-- all OKAYs to a stream come from one id of the device, which is not 0
pub record ComeFromOne (l : ℕ) (packets : List Packet) : Type 0 where
  pub id : ℕ
  pub some : id ≢ 0
  pub all : All (λ p. is_okay p.command ≡ true → p.arg1 ≡ l → p.arg0 ≡ id) packets

-- A device on a plain link: what it owed it owes still; to a stream it owes no more OKAYs than one for each OPEN and one for each write
-- of it; and where the stream was asked for once at most, all of these come from one id.
pub record IsPlain (owes : RemoteEnd) : Type 0 where
  pub grows : (packets more : List Packet) → ComeFirst (owes packets) (owes (packets ++ more))
  pub acks : (l : ℕ) (packets : List Packet) → okays_to l (owes packets) ≤ count_from is_open l packets + count_from is_wrte l packets
  pub ids : (l : ℕ) (packets : List Packet) → count_from is_open l packets ≤ 1 → ComeFromOne l (owes packets)
