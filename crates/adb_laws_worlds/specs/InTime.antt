-- OKAYs that come to the streams of a model device in time.
use Rattle.std.specs.Prelude.{ℕ, ◌<◌}
use Rattle.adb_history.specs.Machine.{History}
use Rattle.adb_history.specs.Bytes.{sent}
use Rattle.adb_daemon.specs.Device.{Setting}
use Rattle.adb_daemon.specs.Streams.{IsAckedInTime}

-- No OKAY of the server comes to a stream of the device before the write that it answers.
abbrev pub AllAckedInTime : Setting → History → Type 0
AllAckedInTime setting h = (own : ℕ) → 0 < own → IsAckedInTime setting own (sent 1 h)
