-- Which entries a capture gives a server, and why it ends before its end.
use Rattle.std.specs.Prelude.{ℕ, ◌+◌, Bool, true, false, if◌then◌else◌, ◌&&◌, nat_eq, nat_lt, nat_le, List, [], ◌∷◌, ◌++◌, take, drop}
use Rattle.std.specs.Prelude.{Option, Some}
use Rattle.std.specs.Prelude.{None, bytes_eq}
use Rattle.adb_outside.specs.Framing.{Cut, cut}
use Rattle.adb_registry.specs.Registry.{attach_refusal}
use Rattle.adb_registry.specs.declared.registry.AttachError.{AttachError}
use Rattle.adb_registry.specs.declared.registry.AttachError.TheVariants.{Numbers, Full, BadSerial as BadSerialError, OutOfMemory}
use Rattle.adb_capture.specs.Records.{magic, record_at, entry_in, offset_after, records_of}
use Rattle.adb_capture.specs.declared.entry.Entry.{Entry}
use Rattle.adb_capture.specs.declared.entry.Entry.TheVariants.{Join, Enter, Read, End, Bound, Attach, Recv, Detach, Put, Send}
use Rattle.adb_capture.specs.Faults.{error_of}
use Rattle.adb_capture.specs.declared.error.FormFault.{FormFault}
use Rattle.adb_capture.specs.declared.error.CaptureError.TheVariants.{BadMagic, Truncated}
use Rattle.adb_history.specs.Rows.{State}
use Rattle.adb_history.specs.Machine.{History, state}
use Rattle.adb_history.specs.Drained.{drained_after, drained}
use Rattle.adb_history.specs.Refusal.{refused_at, refusal_by}
use Rattle.adb_history.specs.declared.refusal.Refusal.{Refusal}
use Rattle.adb_history.specs.declared.refusal.Reason.{Reason}
use Rattle.adb_history.specs.declared.refusal.Reason.TheVariants.{NotDrawn, TooManyDevices, BadSerial}

-- whether a number was drawn
abbrev pub is_drawn : ℕ → ℕ → Bool
is_drawn drawn n = nat_lt 0 n && nat_le n drawn

-- why a device is not taken in
abbrev pub attach_reason : Option AttachError → Option Reason
attach_reason None = None
attach_reason (Some Numbers) = Some NotDrawn
attach_reason (Some Full) = Some TooManyDevices
attach_reason (Some BadSerialError) = Some BadSerial
attach_reason (Some OutOfMemory) = None

abbrev pub unless_drawn : Bool → Option Reason
unless_drawn true = None
unless_drawn false = Some NotDrawn

-- Why a state refuses an entry. What was handed out is passed over.
abbrev pub refusal_of : State → Entry → Option Reason
refusal_of s (Join c) = unless_drawn (nat_eq c (s.joined + 1))
refusal_of s (Enter c port) = unless_drawn (nat_eq c (s.joined + 1))
refusal_of s (Read c bytes) = unless_drawn (is_drawn s.joined c)
refusal_of s (End c cause) = unless_drawn (is_drawn s.joined c)
refusal_of s (Bound c port) = unless_drawn (is_drawn s.joined c)
refusal_of s (Attach t kind serial) =
    if nat_eq t (s.devices.drawn + 1) then attach_reason (attach_refusal s.devices serial) else Some NotDrawn
refusal_of s (Recv t bytes) = unless_drawn (is_drawn s.devices.drawn t)
refusal_of s (Detach t cause) = unless_drawn (is_drawn s.devices.drawn t)
refusal_of s (Put c bytes) = None
refusal_of s (Send t bytes) = None

-- A hand-out that was recorded is passed over.
abbrev pub is_input : Entry → Bool
is_input (Put c bytes) = false
is_input (Send t bytes) = false
is_input _ = true

-- the entries that a server is given, and why it is given no more
pub record Accepted : Type 0 where
  pub inputs : List Entry
  pub refused : Option Refusal

abbrev pub with_input : Entry → Accepted → Accepted
with_input e a = record a { inputs = e ∷ a.inputs }

abbrev pub ends_with : Option Refusal → Accepted
ends_with refused = record { inputs = []; refused = refused }

-- of the records from here on, the first of which is refused so
abbrev pub accept_by : Option Reason → Bool → History → ℕ → Entry → (History → Accepted) → Accepted
accept_by (Some reason) input h offset e others = ends_with (refused_at offset reason)
accept_by None false h offset e others = others h
accept_by None true h offset e others = with_input e (others (drained_after h e))

-- after a kill no further record is read, and what is wrong with those is nothing
abbrev pub unless_stopped : Bool → Accepted → Accepted
unless_stopped true a = ends_with None
unless_stopped false a = a

-- The records are taken in order, each over the state that the drained history of those before it leaves, up to the
-- first that is refused, or to a kill.
abbrev pub accept_from : List (ℕ × Entry) → Option Refusal → History → Accepted
accept_from [] ending h = unless_stopped (state h).stopped (ends_with ending)
accept_from (placed ∷ records) ending h = unless_stopped (state h).stopped
    (accept_by (refusal_of (state h) placed.1) (is_input placed.1) h placed.0 placed.1 (accept_from records ending))

-- how the records end: by a fault, within a record, or between two
abbrev pub end_of : Option FormFault → List ℕ → ℕ → Option Refusal
end_of (Some fault) rest offset = refusal_by (error_of fault)
end_of None [] offset = None
end_of None (b ∷ rest) offset = refusal_by (Truncated offset)

abbrev pub accept_cut : Cut ℕ (ℕ × Entry) FormFault → History → Accepted
accept_cut c h = accept_from c.given (end_of c.fault c.rest c.reading) h

-- what the records behind an offset give a server with a history
abbrev pub accept_records : ℕ → List ℕ → History → Accepted
accept_records offset bytes h = accept_cut (cut record_at entry_in offset_after offset bytes) h

abbrev pub has_magic : List ℕ → Bool
has_magic bytes = bytes_eq (take 8 bytes) magic

-- what a capture gives a server
abbrev pub accepted : List ℕ → Accepted
accepted bytes =
    if has_magic bytes then accept_records 8 (drop 8 bytes) []
    else ends_with (refusal_by BadMagic)

-- the capture of the drained history of what a capture gives; nothing where its magic is bad
abbrev pub replayed : List ℕ → List ℕ
replayed bytes = if has_magic bytes then magic ++ records_of (drained (accepted bytes).inputs) else []
