-- How an OPEN of the server is answered by its model device.
use Rattle.std.specs.Prelude.{ℕ, ◌≡◌, ◌≢◌, ◌≤◌, ◌⊎◌, false, List, ◌∷◌, ◌++◌, Some}
use Rattle.adb_wire.specs.declared.command.Command.TheVariants as commands
use Rattle.adb_wire.specs.declared.packets.Packet.{Packet}
use Rattle.adb_stream.specs.declared.row.Stream.{Stream}
use Rattle.adb_history.specs.Births.{Birth, born, count_from, is_open}
use Rattle.adb_history.specs.Fifo.{okays_in}
use Rattle.adb_history.specs.Machine.{History, state}
use Rattle.adb_device_streams.specs.declared.link.Link.{Link}
use Rattle.adb_daemon.specs.Device.{Setting, device_behind}
use Rattle.adb_laws_model_device.specs.Counts.{how_many}
use Rattle.adb_laws_model_device.specs.Paired.{IsStill}
use Rattle.adb_laws_model_device.specs.Owed.{packets_owed}
use Rattle.adb_laws_model_device.specs.Rows.{is_close_between}

-- An OKAY to the host's id is owed, from an id that is not 0, or a CLSE from 0, which refuses.
abbrev pub IsRepliedTo : Setting → ℕ → List Packet → Type 0
IsRepliedTo setting l packets = ((own : ℕ) × ((own ≢ 0) × (1 ≤ okays_in own l (packets_owed setting packets))))
    ⊎ (1 ≤ how_many (is_close_between 0 l) (packets_owed setting packets))

-- The first OPEN of an id that is not 0 is replied to, on a link, whatever follows.
abbrev pub RepliesToOpens : Setting → Type 0
RepliesToOpens setting = (front : List Packet) (p : Packet) (rest : List Packet) (link : Link)
    → (device_behind setting front).refused ≡ false
    → (device_behind setting front).link ≡ Some link → p.command ≡ commands.Open → p.arg0 ≢ 0 → count_from is_open p.arg0 front ≡ 0
    → IsRepliedTo setting p.arg0 (front ++ p ∷ rest)

-- Where nothing is on its way, each stream that lives is open.
abbrev pub AllAreOpen : Setting → History → Type 0
AllAreOpen setting h = IsStill (packets_owed setting) h → (l : ℕ) (b : Birth) (x : Stream) → born l h ≡ Some b → b.link ≡ 1
    → (state h).streams l ≡ Some x → x.part.remote ≢ 0
