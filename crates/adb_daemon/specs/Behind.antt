-- What the code holds of a device behind packets, and of one that was fed bytes.
use Rattle.std.specs.Prelude.{ℕ, ◌≡◌, Bool, List}
use Rattle.adb_files.specs.Entries.{Entry}
use Rattle.adb_daemon.specs.Device.{Device, Setting}
use Rattle.adb_daemon.specs.Held.{Holds, view_of}
use Rattle.adb_daemon.specs.declared.machine.Machine.{Machine}

abbrev pub setting_of : ℕ → Bool → List Entry → Setting
setting_of most credit files = record { most = most; credit = credit; files = files }

-- the setting of a machine that began with some files
abbrev pub setting_in : Machine → List Entry → Setting
setting_in machine files = setting_of machine.most machine.credit files

-- what is held of a device behind packets, of whose bytes these were taken
pub record Stands (d : Device) (taken : List ℕ) (machine : Machine) : Type 0 where
  pub link : machine.link ≡ d.link
  pub refused : machine.refused ≡ d.refused
  pub holds : Holds d.serving taken (view_of machine.services)
