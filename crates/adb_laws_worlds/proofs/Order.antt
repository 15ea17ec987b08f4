-- What the daemon's laws keep of one id, behind any packets.
use Rattle.std.specs.Prelude.{ℕ, ◌<◌, List, [], ◌∷◌, fold}
use Rattle.std.proofs.Common.{refl}
use Rattle.std.specs.List.Sorted.{IsStrictlySortedBy}
use Rattle.adb_wire.specs.declared.packets.Packet.{Packet}
use Rattle.adb_daemon.specs.Device.{Device, Setting, step, first_device, device_behind}
use Rattle.adb_daemon.proofs.Rules.{step_orderly}
use Rattle.adb_daemon.proofs.Standing.{IsOrderly}

module _ (own : ℕ) (some : 0 < own) where
  all_orderly : (setting : Setting) (packets : List Packet) (d : Device) → IsOrderly own d.serving
      → IsOrderly own (fold (step setting) d packets).serving
  all_orderly setting [] d o = o
  all_orderly setting (p ∷ packets) d o = all_orderly setting packets (step setting d p) (step_orderly own some setting d p o)

  pub behind_orderly : (setting : Setting) (packets : List Packet) → IsOrderly own (device_behind setting packets).serving
  unfolding IsStrictlySortedBy
  behind_orderly setting packets =
      all_orderly setting packets (first_device setting) (record { rises = tt; fresh = λ above. (refl, refl); writes = (refl, refl, refl) })
