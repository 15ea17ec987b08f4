-- A stream that its model device closed.
use Rattle.std.specs.Prelude.{ℕ, ◌≡◌, true, Some}
use Rattle.adb_outside.specs.Bytes.{IsPrefixOf}
use Rattle.adb_history.specs.Births.{Birth, born, opening_of, Opening, told_before_close, joined, handed_to}
use Rattle.adb_history.specs.Bytes.{bytes_put, sent}
use Rattle.adb_history.specs.declared.ending.Ending.TheVariants.{PeerClosed}
use Rattle.adb_history.specs.Lives.{ending_of, output_of, rest_of}
use Rattle.adb_history.specs.Machine.{History}
use Rattle.adb_device_streams.specs.Asked.{service_of}
use Rattle.adb_device_streams.specs.Service.{bytes_in, service_answer}
use Rattle.adb_daemon.specs.Device.{Setting, device_behind}
use Rattle.adb_daemon.specs.Serving.{Ended}
use Rattle.adb_daemon.specs.Streams.{over_at}
use Rattle.adb_laws_model_device.specs.Paired.{IsStill}
use Rattle.adb_laws_model_device.specs.Owed.{packets_owed}

-- The row of the stream has ended at the device, and its service; what was told of the stream before its close is the
-- whole answer to what came, a front
-- of what the client wrote; and the client was handed all of it, where it was put all that became due to it.
pub record HasEndedWhole (setting : Setting) (h : History) (l : ℕ) (b : Birth) (o : Opening) : Type 0 where
  pub over : Ended
  pub is : over_at o.remote (device_behind setting (sent 1 h)).serving.ended ≡ Some over
  pub host : over.row.host ≡ l
  pub kind : service_of b.service ≡ Some over.row.kind
  pub ended : (service_answer over.row.kind over.row.first over.row.past).ended ≡ true
  pub came : IsPrefixOf (bytes_in over.row.past) (rest_of l b h)
  pub told : joined (told_before_close l b h) ≡ (service_answer over.row.kind over.row.first over.row.past).bytes
  pub got : bytes_put b.client h ≡ output_of b.client h → handed_to l b h
      ≡ (service_answer over.row.kind over.row.first over.row.past).bytes

-- So is each stream of the first link that was opened and that its device closed, where nothing is on its way.
abbrev pub ClosedGaveAll : Setting → History → Type 0
ClosedGaveAll setting h = IsStill (packets_owed setting) h → (l : ℕ) (b : Birth) (o : Opening) → born l h ≡ Some b → b.link ≡ 1
    → opening_of l b h ≡ Some o → ending_of l h ≡ Some PeerClosed → HasEndedWhole setting h l b o
