-- Why the hub refuses an entry, in the order in which it looks.
use Rattle.std.specs.Prelude.{ℕ, ◌-◌, ◌^◌, ◌==◌, Bool, true, false, if◌then◌else◌, Option, Some, None, option_map}
use Rattle.adb_registry.specs.Registry.{attach_refusal}
use Rattle.adb_registry.specs.declared.registry.AttachError.{AttachError}
use Rattle.adb_registry.specs.declared.registry.AttachError.TheVariants as attach
use Rattle.adb_capture.specs.declared.entry.Entry.{Entry}
use Rattle.adb_capture.specs.declared.entry.Entry.TheVariants.{Join, Enter, Read, End, Bound, Attach, Recv, Detach, Put, Send}
use Rattle.adb_history.specs.Rows.{State}
use Rattle.adb_history.specs.Accepted.{is_drawn}
use Rattle.adb_hub.specs.declared.error.HubError.{HubError}
use Rattle.adb_hub.specs.declared.error.HubError.TheVariants.{Stopped, NoClient, NoLink, Numbers, Full, BadSerial, OutOfMemory}

-- after a kill nothing comes
abbrev pub unless_stopped : Bool → Option HubError → Option HubError
unless_stopped true why = Some Stopped
unless_stopped false why = why

-- nothing comes from a number that was not drawn
abbrev pub unless_drawn : Bool → HubError → Option HubError
unless_drawn true why = None
unless_drawn false why = Some why

-- nobody comes when all numbers were drawn
abbrev pub unless_worn : ℕ → Option HubError
unless_worn joined = if joined == 2 ^ 32 - 1 then Some Numbers else None

abbrev pub attach_error : AttachError → HubError
attach_error attach.Numbers = Numbers
attach_error attach.Full = Full
attach_error attach.BadSerial = BadSerial
attach_error attach.OutOfMemory = OutOfMemory

-- why an entry is not made, memory aside
abbrev pub refusal : Entry → State → Option HubError
refusal (Join c) s = unless_stopped s.stopped (unless_worn s.joined)
refusal (Enter c port) s = unless_stopped s.stopped (unless_worn s.joined)
refusal (Read c bytes) s = unless_stopped s.stopped (unless_drawn (is_drawn s.joined c) (NoClient c))
refusal (End c cause) s = unless_stopped s.stopped (unless_drawn (is_drawn s.joined c) (NoClient c))
refusal (Bound c port) s = unless_stopped s.stopped (unless_drawn (is_drawn s.joined c) (NoClient c))
refusal (Attach t kind serial) s = unless_stopped s.stopped (option_map attach_error (attach_refusal s.devices serial))
refusal (Recv t bytes) s = unless_stopped s.stopped (unless_drawn (is_drawn s.devices.drawn t) (NoLink t))
refusal (Detach t cause) s = unless_stopped s.stopped (unless_drawn (is_drawn s.devices.drawn t) (NoLink t))
refusal (Put c bytes) s = unless_drawn (is_drawn s.joined c) (NoClient c)
refusal (Send t bytes) s = unless_drawn (is_drawn s.devices.drawn t) (NoLink t)
