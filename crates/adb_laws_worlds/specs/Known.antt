-- Streams that were asked for a service that their model device knows.
use Rattle.std.specs.Prelude.{ℕ, ◌≡◌, true, is_some, Some}
use Rattle.adb_history.specs.Births.{Birth, born, opening_of}
use Rattle.adb_history.specs.Machine.{History}
use Rattle.adb_device_streams.specs.Asked.{service_of}
use Rattle.adb_daemon.specs.Device.{Setting}
use Rattle.adb_laws_model_device.specs.Paired.{IsStill}
use Rattle.adb_laws_model_device.specs.Owed.{packets_owed}

-- Where nothing is on its way, each of them was opened.
abbrev pub KnownAreOpened : Setting → History → Type 0
KnownAreOpened setting h = IsStill (packets_owed setting) h → (l : ℕ) (b : Birth) → born l h ≡ Some b → b.link ≡ 1
    → is_some (service_of b.service) ≡ true → is_some (opening_of l b h) ≡ true
