-- The model device is a device on a plain link.
use Rattle.adb_daemon.specs.Device.{Setting}
use Rattle.adb_laws_model_device.specs.Devices.{IsPlain}
use Rattle.adb_laws_model_device.specs.Owed.{packets_owed}
use Rattle.adb_laws_model_device.proofs.Owing.{owed_grows, owed_acks}
use Rattle.adb_laws_model_device.proofs.Hosts.{come_from_one}

pub model_is_plain : (setting : Setting) → IsPlain (packets_owed setting)
model_is_plain setting = record {
  grows = owed_grows setting;
  acks = owed_acks setting;
  ids = λ l packets once. come_from_one l setting packets once;
}
