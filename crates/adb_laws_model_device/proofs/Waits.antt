-- At rest no write waits of a stream that lives at both ends.
use Rattle.std.specs.Prelude.{◌^◌, ◌≡◌, ◌<◌, false}
use Rattle.adb_history.specs.Machine.{History, IsLegal}
use Rattle.adb_history.specs.Bytes.{sent}
use Rattle.adb_history.specs.Births.{remote_of}
use Rattle.adb_daemon.specs.Device.{Setting}
use Rattle.adb_laws_model_device.specs.Paired.{IsPaired}
use Rattle.adb_laws_model_device.proofs.Turns.{sent_in_turn}
use Rattle.adb_laws_model_device.proofs.WaitsAtRest.{none_waits}
use Rattle.adb_laws_model_device.specs.Owed.{packets_owed}
use Rattle.adb_laws_model_device.specs.Joined.{IsJoined}
use Rattle.adb_laws_model_device.specs.Rows.{NoneWaits}
use Rattle.adb_laws_model_device.proofs.Plain.{model_is_plain}
use Rattle.adb_laws_model_device.proofs.Joined.{paired}
use Rattle.adb_laws_model_device.proofs.Sound.{never_refused}
use Rattle.adb_laws_model_device.proofs.Acknowledged.{live_is_acked}

-- so no write waits of a stream whose row lives
pub none_waits_there : (setting : Setting) → setting.most < 2 ^ 32 → setting.credit ≡ false → (h : History) → IsLegal h → IsJoined setting h
    → NoneWaits setting h
none_waits_there setting word plain h legal joined still l b x k row born own no_credit live kept opened client here host =
    let pairs : IsPaired (packets_owed setting) h = paired setting word h legal joined in
    let turn = sent_in_turn (packets_owed setting) (model_is_plain setting) h legal pairs l b born in
    none_waits (packets_owed setting) (model_is_plain setting) h legal pairs still l b x k born live kept opened client
    (record {
      own = own;
      plain = no_credit;
      all = live_is_acked setting plain l (remote_of l b h) (sent 1 h) turn (never_refused setting 1 h legal) row here host;
    })
