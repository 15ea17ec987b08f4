-- The rows of a model device for the open streams of its server.
use Rattle.std.specs.Prelude.{ℕ, ◌≡◌, ◌≢◌, Some}
use Rattle.adb_outside.specs.Tables.{at}
use Rattle.adb_stream.specs.declared.row.Stream.{Stream}
use Rattle.adb_history.specs.Machine.{History, state}
use Rattle.adb_history.specs.Bytes.{sent}
use Rattle.adb_history.specs.Births.{Birth, born, remote_of}
use Rattle.adb_device_streams.specs.Stream.{Row}
use Rattle.adb_daemon.specs.Device.{Setting, device_behind}
use Rattle.adb_laws_model_device.specs.Paired.{IsStill}
use Rattle.adb_laws_model_device.specs.Owed.{packets_owed}

-- The row of the id that the device told lives, and is for this stream of the server.
pub record HasRow (setting : Setting) (h : History) (l : ℕ) (b : Birth) : Type 0 where
  pub row : Row
  pub is : at (remote_of l b h) (device_behind setting (sent 1 h)).serving.rows ≡ Some row
  pub host : row.host ≡ l

-- Where nothing is on its way, each open stream of the server has its row.
abbrev pub OpenHaveRows : Setting → History → Type 0
OpenHaveRows setting h = IsStill (packets_owed setting) h → (l : ℕ) (b : Birth) (x : Stream) → born l h ≡ Some b → b.link ≡ 1
    → (state h).streams l ≡ Some x → x.part.remote ≢ 0 → HasRow setting h l b
