-- A model device that writes in its turn.
use Rattle.std.specs.Prelude.{ℕ, ◌+◌, ◌≡◌, ◌≢◌, ◌≤◌, false, List, Some}
use Rattle.adb_wire.specs.declared.packets.Packet.{Packet}
use Rattle.adb_history.specs.Births.{Birth, born, count_from, is_okay, is_open}
use Rattle.adb_history.specs.declared.ending.Ending.TheVariants.{OutOfTurn}
use Rattle.adb_history.specs.Lives.{ending_of}
use Rattle.adb_history.specs.Machine.{History}
use Rattle.adb_daemon.specs.Device.{Setting, device_behind}
use Rattle.adb_laws_model_device.specs.Counts.{writes_to}
use Rattle.adb_laws_model_device.specs.Owed.{packets_owed}

-- To an id of the host that asked for a stream once at most, a device without credit in bytes makes one write, and
-- one more for each OKAY of that id.
abbrev pub WritesAsAllowed : Setting → Type 0
WritesAsAllowed setting = (l : ℕ) (packets : List Packet) → count_from is_open l packets ≤ 1
    → (device_behind setting packets).refused ≡ false
    → writes_to l (packets_owed setting packets) ≤ 1 + count_from is_okay l packets

-- No stream of the first link ended by a write out of turn.
abbrev pub AllInTurn : History → Type 0
AllInTurn h = (l : ℕ) (b : Birth) → born l h ≡ Some b → b.link ≡ 1 → ending_of l h ≢ Some OutOfTurn
