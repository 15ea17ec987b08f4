-- The link of a model device: it breaks by nothing that the device sends.
use Rattle.std.specs.Prelude.{ℕ, ◌≡◌, ◌≢◌, ◌≤◌, false, Some, None}
use Rattle.adb_wire.specs.Cutting.{framed}
use Rattle.adb_history.specs.Births.{Birth, born}
use Rattle.adb_history.specs.Bytes.{is_lost, bytes_received, brought}
use Rattle.adb_history.specs.declared.ending.Ending.TheVariants.{Lost, Broken}
use Rattle.adb_history.specs.Lives.{ending_of}
use Rattle.adb_history.specs.Machine.{History}
use Rattle.adb_laws_model_device.specs.Counts.{how_many}
use Rattle.adb_laws_model_device.specs.Rows.{is_cnxn_packet}

-- What a device's link brought has no fault, and one CNXN at most.
pub record BringsSound (h : History) : Type 0 where
  pub sound : (framed (bytes_received 1 h)).fault ≡ None
  pub once : how_many is_cnxn_packet (brought 1 h) ≤ 1

-- No stream of the first link ended with it, where the link was not lost.
pub record OutlivesLink (l : ℕ) (h : History) : Type 0 where
  pub lost : ending_of l h ≢ Some Lost
  pub broken : ending_of l h ≢ Some Broken

abbrev pub AllOutliveLink : History → Type 0
AllOutliveLink h = is_lost 1 h ≡ false → (l : ℕ) (b : Birth) → born l h ≡ Some b → b.link ≡ 1 → OutlivesLink l h
