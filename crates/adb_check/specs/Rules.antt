-- The rules that an entry breaks which may not come next, in the order in which they are looked at.
use Rattle.std.specs.Prelude.{ℕ, ◌+◌, ◌≡◌, ◌≢◌, true, List, Some, codes}
use Rattle.adb_registry.specs.Registry.{attach_refusal}
use Rattle.adb_registry.specs.declared.registry.AttachError.{AttachError}
use Rattle.adb_registry.specs.declared.registry.AttachError.TheVariants as attach
use Rattle.adb_capture.specs.declared.entry.Entry.{Entry}
use Rattle.adb_capture.specs.declared.entry.Entry.TheVariants.{Join, Enter, Read, End, Bound, Attach, Recv, Detach, Put, Send}
use Rattle.adb_history.specs.Rows.{State}
use Rattle.adb_history.specs.Machine.{IsDrawn, MayPut, MaySend}
use Rattle.adb_history.specs.Accepted.{is_input}
use Rattle.adb_check.specs.declared.verdict.Rule.{Rule}
use Rattle.adb_check.specs.declared.verdict.Rule.TheVariants.{AfterKill, NotDrawn, TooManyDevices, BadSerial, NotDue}

-- An entry that draws a number names the next one, where one is left, and every other entry names one that was drawn.
abbrev pub NamesDrawn : State → Entry → Type 0
NamesDrawn s (Join c) = c ≡ s.joined + 1
NamesDrawn s (Enter c port) = c ≡ s.joined + 1
NamesDrawn s (Read c bytes) = IsDrawn s.joined c
NamesDrawn s (End c cause) = IsDrawn s.joined c
NamesDrawn s (Bound c port) = IsDrawn s.joined c
NamesDrawn s (Attach t kind serial) = (t ≡ s.devices.drawn + 1) × (attach_refusal s.devices serial ≢ Some attach.Numbers)
NamesDrawn s (Recv t bytes) = IsDrawn s.devices.drawn t
NamesDrawn s (Detach t cause) = IsDrawn s.devices.drawn t
NamesDrawn s (Put c bytes) = IsDrawn s.joined c
NamesDrawn s (Send t bytes) = IsDrawn s.devices.drawn t

-- it plugs in a device, which is refused so
abbrev pub IsRefusedDevice : AttachError → State → Entry → Type 0
IsRefusedDevice why s (Attach t kind serial) = attach_refusal s.devices serial ≡ Some why
IsRefusedDevice why s _ = ⊥

-- it hands out what may not be handed out
abbrev pub IsNotDue : State → Entry → Type 0
IsNotDue s (Put c bytes) = ¬ MayPut s (s.clients c) bytes
IsNotDue s (Send t bytes) = ¬ MaySend (s.links t) bytes
IsNotDue s _ = ⊥

-- an entry breaks a rule
abbrev pub Breaks : Rule → State → Entry → Type 0
Breaks AfterKill s e = (is_input e ≡ true) × (s.stopped ≡ true)
Breaks NotDrawn s e = ¬ NamesDrawn s e
Breaks TooManyDevices s e = IsRefusedDevice attach.Full s e
Breaks BadSerial s e = IsRefusedDevice attach.BadSerial s e
Breaks NotDue s e = IsNotDue s e

-- it keeps those that are looked at before
abbrev pub KeepsBefore : Rule → State → Entry → Type 0
KeepsBefore AfterKill s e = Unit {0}
KeepsBefore NotDrawn s e = ¬ Breaks AfterKill s e
KeepsBefore TooManyDevices s e = (¬ Breaks AfterKill s e) × (¬ Breaks NotDrawn s e)
KeepsBefore BadSerial s e = (¬ Breaks AfterKill s e) × (¬ Breaks NotDrawn s e) × (¬ Breaks TooManyDevices s e)
KeepsBefore NotDue s e = (¬ Breaks AfterKill s e) × (¬ Breaks NotDrawn s e) × (¬ Breaks TooManyDevices s e) × (¬ Breaks BadSerial s e)

-- the first rule that it breaks
pub record BreaksFirst (rule : Rule) (s : State) (e : Entry) : Type 0 where
  pub breaks : Breaks rule s e
  pub before : KeepsBefore rule s e

abbrev pub rule_text : Rule → List ℕ
rule_text AfterKill = codes "after a kill"
rule_text NotDrawn = codes "number not drawn"
rule_text TooManyDevices = codes "too many devices"
rule_text BadSerial = codes "bad serial"
rule_text NotDue = codes "not due"
