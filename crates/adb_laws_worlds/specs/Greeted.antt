-- How a server says to a link who it is.
use Rattle.std.specs.Prelude.{ℕ, ◌≡◌, ◌<◌, ◌≤◌, List, [], ◌∷◌}
use Rattle.adb_wire.specs.declared.packets.Packet.{Packet}
use Rattle.adb_history.specs.Book.{plugged_count}
use Rattle.adb_history.specs.Links.{server_cnxn}
use Rattle.adb_history.specs.Lives.{packets_of}
use Rattle.adb_history.specs.Machine.{History}
use Rattle.adb_laws_model_device.specs.Counts.{how_many}
use Rattle.adb_laws_model_device.specs.Rows.{is_cnxn_packet}

-- The first packet is the server's CNXN, and there is no other.
pub record BeginsOnce (packets : List Packet) : Type 0 where
  pub rest : List Packet
  pub is : packets ≡ server_cnxn ∷ rest
  pub once : how_many is_cnxn_packet rest ≡ 0

-- To a link that was plugged in what becomes due begins so, and to another nothing becomes due.
pub record IsGreeted (t : ℕ) (h : History) : Type 0 where
  pub plugged : 0 < t → t ≤ plugged_count h → BeginsOnce (packets_of t h)
  pub absent : plugged_count h < t → packets_of t h ≡ []

abbrev pub GreetsLinks : History → Type 0
GreetsLinks h = (t : ℕ) → IsGreeted t h
