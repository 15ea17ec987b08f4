-- What came to the services of a model device.
use Rattle.std.specs.Prelude.{ℕ, ◌≡◌, List, Some}
use Rattle.adb_outside.specs.Bytes.{IsPrefixOf}
use Rattle.adb_outside.specs.Tables.{at}
use Rattle.adb_wire.specs.declared.packets.Packet.{Packet}
use Rattle.adb_history.specs.Births.{Birth, born, remote_of, carried_in}
use Rattle.adb_history.specs.Bytes.{sent}
use Rattle.adb_history.specs.Machine.{History}
use Rattle.adb_device_streams.specs.Service.{bytes_in}
use Rattle.adb_device_streams.specs.Stream.{Row}
use Rattle.adb_daemon.specs.Serving.{Serving, Ended}
use Rattle.adb_daemon.specs.Device.{Setting, device_behind}
use Rattle.adb_daemon.specs.Streams.{over_at}

-- While the row of the device's id lives, all that was sent up a stream came to its service; to one that has ended a front of it came.
pub record TookCarried (l id : ℕ) (packets : List Packet) (s : Serving) : Type 0 where
  pub live : (row : Row) → at id s.rows ≡ Some row → row.host ≡ l → bytes_in row.past ≡ carried_in l packets
  pub over : (e : Ended) → over_at id s.ended ≡ Some e → e.row.host ≡ l → IsPrefixOf (bytes_in e.row.past) (carried_in l packets)

-- It is so of each stream that was born, at the id that the device told.
abbrev pub TakesCarried : Setting → History → Type 0
TakesCarried setting h = (l : ℕ) (b : Birth) → born l h ≡ Some b
    → TookCarried l (remote_of l b h) (sent 1 h) (device_behind setting (sent 1 h)).serving
