-- Packets that came.
use Rattle.std.specs.Prelude.{ℕ, ◌+◌, ◌≡◌, ◌≤◌, [], ◌∷◌, map, Bool, true, false, if◌then◌else◌, nat_eq, List, length, min, Option, Some}
use Rattle.std.specs.Prelude.{None, IfSome}
use Rattle.adb_outside.specs.Tables.{at}
use Rattle.adb_banner.specs.Banner.{identity_of}
use Rattle.adb_outside.specs.declared.identity.State.{State as DeviceState}
use Rattle.adb_outside.specs.declared.identity.State.TheVariants.{Offline}
use Rattle.adb_outside.specs.declared.identity.Identity.{Identity}
use Rattle.adb_registry.specs.Row.{online_row}
use Rattle.adb_registry.specs.Registry.{changed}
use Rattle.adb_wire.specs.declared.limits.TheConstants.{VERSION}
use Rattle.adb_wire.specs.declared.headers.TheConstants.{MAX_PAYLOAD}
use Rattle.adb_registry.specs.declared.registry.TheConstants.{MAX_FEATURES}
use Rattle.adb_wire.specs.Format.{packet_under}
use Rattle.adb_wire.specs.declared.command.Command.{Command}
use Rattle.adb_wire.specs.declared.command.Command.TheVariants.{Cnxn, Okay, Wrte}
use Rattle.adb_wire.specs.declared.packets.Packet.{Packet}
use Rattle.adb_client.specs.declared.output.TheConstants.{MAX_SLICE}
use Rattle.adb_stream.specs.declared.row.Stream.{Stream}
use Rattle.adb_history.specs.Rows.{State}
use Rattle.adb_hub_rules.specs.declared.came.Came.{Came}
use Rattle.adb_registry.specs.declared.row.Row.{Row}

-- whether a device was plugged in and has not said who it is
abbrev pub offline_state : DeviceState → Bool
offline_state Offline = true
offline_state _ = false

abbrev pub offline_in : Option Row → Bool
offline_in None = false
offline_in (Some row) = offline_state row.state

-- the device of a link is who it says, with the lesser version and maxdata
abbrev pub named : ℕ → (version maxdata : ℕ) → Identity → State → State
named t version maxdata identity s = record s {
  devices = changed t (online_row identity (min version VERSION) (min maxdata MAX_PAYLOAD)) s.devices;
}

-- the packet that came
abbrev pub packet_of : Came → Packet
packet_of came = packet_under came.head came.payload

-- A packet that came is not too long, and of a CNXN it is known who the device says that it is.
pub record IsCame (came : Came) : Type 0 where
  pub size : length came.payload ≤ MAX_SLICE
  pub identity : came.head.command ≡ Cnxn → identity_of came.payload ≡ came.identity
  pub features : IfSome came.identity (λ identity. length identity.features ≤ MAX_FEATURES)

-- whether a packet may make something due to a client
abbrev pub takes_slice : Command → Bool
takes_slice Okay = true
takes_slice Wrte = true
takes_slice _ = false

-- how many slices become due to a client at most, by a packet for that stream
abbrev pub slices_of : Bool → Option Stream → ℕ → ℕ
slices_of false row c = 0
slices_of true None c = 0
slices_of true (Some stream) c = if nat_eq stream.client c then 1 else 0

abbrev pub slices_for : Packet → List (ℕ × Stream) → ℕ → ℕ
slices_for p streams c = slices_of (takes_slice p.command) (at p.arg1 streams) c

-- the packets that came
abbrev pub packets_of : List Came → List Packet
packets_of all = map packet_of all

-- how many slices become due to a client at most, by packets one after another
abbrev pub slices_in : List Packet → List (ℕ × Stream) → ℕ → ℕ
slices_in [] streams c = 0
slices_in (p ∷ packets) streams c = slices_for p streams c + slices_in packets streams c
