-- What plugging in a device does to the hall and to the device.
use Rattle.std.specs.Prelude.{ℕ, ◌≡◌, Bool, true, false, List, ⊤}
use Rattle.adb_outside.specs.declared.kinds.Kind.{Kind}
use Rattle.adb_connections.specs.declared.device.Plug.{Plug}
use Rattle.adb_connections.specs.declared.device.Plug.TheVariants as plug
use Rattle.adb_capture.specs.declared.entry.Entry.TheVariants.{Attach}
use Rattle.adb_server_log.specs.Marked.{is_marked}
use Rattle.adb_server_hall.specs.Telling.{Telling, Entered, Fails}
use Rattle.adb_server_hall.specs.Passes.{ArePair}
use Rattle.adb_server_device_reader.specs.declared.device.Plugged.{Plugged}
use Rattle.adb_server_device_reader.specs.declared.device.Plugged.TheVariants.{Link, Never, Failed, Refused}

-- one Attach where the device is here and the hall did not refuse it, and no entry elsewhere
abbrev pub Plugs : {E M K : Type 0} → Kind → List ℕ → Plugged E M K → Telling → Telling → Type 0
Plugs kind serial (Link reading writing) a b = Entered (Attach reading.pass.number kind serial) a b
Plugs kind serial Never a b = b ≡ a
Plugs kind serial Failed a b = b ≡ a
Plugs kind serial (Refused error) a b = Fails (Attach 0 kind serial) error a b

-- a link has two passes of its number
abbrev pub HasPasses : {E M K : Type 0} → Plugged E M K → Type 0
HasPasses (Link reading writing) = ArePair reading.pass writing.pass
HasPasses Never = ⊤
HasPasses Failed = ⊤
HasPasses (Refused error) = ⊤

-- what the device answered
abbrev pub plug_of : {E M K : Type 0} → Plugged E M K → Plug
plug_of (Link reading writing) = plug.Here
plug_of Never = plug.Never
plug_of Failed = plug.Failed
plug_of (Refused error) = plug.Here

-- whether the device failed
abbrev pub is_failed_plugged : {E M K : Type 0} → Plugged E M K → Bool
is_failed_plugged (Link reading writing) = false
is_failed_plugged Never = false
is_failed_plugged Failed = true
is_failed_plugged (Refused error) = false

-- whether the hall gave a marked answer
abbrev pub marks_plugged : {E M K : Type 0} → Plugged E M K → Bool
marks_plugged (Link reading writing) = false
marks_plugged Never = false
marks_plugged Failed = false
marks_plugged (Refused error) = is_marked error
