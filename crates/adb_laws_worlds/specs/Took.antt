-- What the services of a model device took.
use Rattle.std.specs.Prelude.{ℕ, ◌≡◌, Some}
use Rattle.adb_outside.specs.Bytes.{IsPrefixOf}
use Rattle.adb_outside.specs.Tables.{at}
use Rattle.adb_history.specs.Births.{Birth, born, remote_of}
use Rattle.adb_history.specs.Bytes.{sent}
use Rattle.adb_history.specs.Lives.{rest_of}
use Rattle.adb_history.specs.Machine.{History}
use Rattle.adb_device_streams.specs.Service.{bytes_in}
use Rattle.adb_device_streams.specs.Stream.{Row}
use Rattle.adb_daemon.specs.Device.{Setting, device_behind}
use Rattle.adb_daemon.specs.Serving.{Ended}
use Rattle.adb_daemon.specs.Streams.{over_at}

-- What came to the service of a stream is a front of what its client wrote past its requests, whether the device's
-- row of it lives or has ended.
pub record TookWritten (setting : Setting) (h : History) (l : ℕ) (b : Birth) : Type 0 where
  pub live : (row : Row) → at (remote_of l b h) (device_behind setting (sent 1 h)).serving.rows ≡ Some row → row.host ≡ l
      → IsPrefixOf (bytes_in row.past) (rest_of l b h)
  pub over : (e : Ended) → over_at (remote_of l b h) (device_behind setting (sent 1 h)).serving.ended ≡ Some e → e.row.host ≡ l
      → IsPrefixOf (bytes_in e.row.past) (rest_of l b h)

abbrev pub AllTookWritten : Setting → History → Type 0
AllTookWritten setting h = (l : ℕ) (b : Birth) → born l h ≡ Some b → b.link ≡ 1 → TookWritten setting h l b
