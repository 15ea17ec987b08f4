-- The rows of a model device and the streams of its server.
use Rattle.std.specs.Prelude.{ℕ, ◌+◌, ◌≡◌, ◌≢◌, ◌≤◌, ◌⊎◌, ◌&&◌, Bool, nat_eq, false, List, Some}
use Rattle.adb_outside.specs.Tables.{at}
use Rattle.adb_wire.specs.Format.{is_cnxn}
use Rattle.adb_wire.specs.declared.packets.Packet.{Packet}
use Rattle.adb_stream.specs.declared.row.Stream.{Stream}
use Rattle.adb_history.specs.Rows.{Client}
use Rattle.adb_history.specs.Machine.{History, state}
use Rattle.adb_history.specs.Bytes.{sent}
use Rattle.adb_history.specs.Births.{Birth, born, remote_of, count_from, is_wrte, is_clse, is_between}
use Rattle.adb_history.specs.Fifo.{okays_in}
use Rattle.adb_laws_causes.specs.Flows.{waiting}
use Rattle.adb_device_streams.specs.Stream.{Row}
use Rattle.adb_daemon.specs.Device.{Setting, device_behind}
use Rattle.adb_laws_model_device.specs.Counts.{how_many, okays_to}
use Rattle.adb_laws_model_device.specs.InTurn.{AreInTurn}
use Rattle.adb_laws_model_device.specs.Paired.{IsStill}
use Rattle.adb_laws_model_device.specs.Owed.{packets_owed}

-- While the row of its device's id lives, the OPEN of a stream and all its writes were acknowledged.
abbrev pub LiveAreAcknowledged : Setting → Type 0
LiveAreAcknowledged setting = (l n : ℕ) (packets : List Packet) → AreInTurn l n 0 packets → (device_behind setting packets).refused ≡ false
    → (row : Row) → at n (device_behind setting packets).serving.rows ≡ Some row → row.host ≡ l
    → 1 + count_from is_wrte l packets ≤ okays_to l (packets_owed setting packets)

-- Where nothing is on its way between a server and its model device, no write of a stream waits that lives at both ends.
abbrev pub NoneWaits : Setting → History → Type 0
NoneWaits setting h = IsStill (packets_owed setting) h
    → (l : ℕ) (b : Birth) (x : Stream) (k : Client) (row : Row) → born l h ≡ Some b → b.link ≡ 1 → b.credit ≡ false
    → (state h).streams l ≡ Some x → x.part.orphan ≡ false → x.part.remote ≢ 0 → (state h).clients x.client ≡ Some k
    → at (remote_of l b h) (device_behind setting (sent 1 h)).serving.rows ≡ Some row → row.host ≡ l
    → waiting x.part.flow ≡ 0

-- ---- the end of a row
-- a CLSE of both ids of a stream, and one to an id of the device
abbrev pub is_close_between : (n l : ℕ) → Packet → Bool
is_close_between n l p = is_clse p.command && is_between n l p

abbrev pub is_close_to : ℕ → Packet → Bool
is_close_to n p = is_clse p.command && nat_eq p.arg1 n

abbrev pub is_cnxn_packet : Packet → Bool
is_cnxn_packet p = is_cnxn p.command

-- Where the device owes an OKAY from n to l, the row of n lives for that host, or the device closed it, or its host
-- did; its host said who it is
-- once at most.
abbrev pub LivesOrWasClosed : Setting → Type 0
LivesOrWasClosed setting = (n l : ℕ) (packets : List Packet) → how_many is_cnxn_packet packets ≤ 1
    → 1 ≤ okays_in n l (packets_owed setting packets)
    → ((row : Row) × ((at n (device_behind setting packets).serving.rows ≡ Some row) × (row.host ≡ l)))
    ⊎ ((1 ≤ how_many (is_close_between n l) (packets_owed setting packets)) ⊎ (1 ≤ how_many (is_close_to n) packets))
