-- What connections and devices in memory are seen as, and what their calls do.
use Rattle.std.specs.Prelude.{ℕ, ◌≡◌, Bool, false, List, [], Option}
use Rattle.adb_outside.specs.Memory.{MemoryInput, MemoryOutput}
use Rattle.adb_connections.specs.declared.device.Plug.{Plug}
use Rattle.adb_connections.specs.Device.{is_failed_plug}

-- the half of a connection in memory that is written to
pub record MemoryClosing : Type 0 where
  pub sink : MemoryOutput
  pub closed : Bool

-- a device in memory: how it is plugged in, its answers to that, and what it sends
pub record MemoryPlugged : Type 0 where
  pub plug : Plug
  pub plugs : Option (List Plug)
  pub source : MemoryInput

-- a device that is plugged in or never is, and whose reads do not fail
abbrev pub IsSteadyDevice : MemoryPlugged → Type 0
IsSteadyDevice device = (device.source.failing ≡ []) × (is_failed_plug device.plug ≡ false)
