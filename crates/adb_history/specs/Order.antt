-- What every reader expects of a legal history: its numbers, and its packets.
use Rattle.std.specs.Prelude.{ℕ, ◌≡◌, ◌≢◌, ◌≤◌, ◌+◌, ⊤, All, []}
use Rattle.adb_capture.specs.declared.entry.Entry.{Entry}
use Rattle.adb_capture.specs.declared.entry.Entry.TheVariants.{Join, Enter, Attach}
use Rattle.adb_wire.specs.declared.command.Command.TheVariants.{Cnxn}
use Rattle.adb_history.specs.Rows.{State}
use Rattle.adb_history.specs.Events.{Event, due_to_client, due_to_link, ended}
use Rattle.adb_history.specs.Machine.{History, state, told, ups}
use Rattle.adb_history.specs.Book.{plugged_count}
use Rattle.adb_history.specs.Tied.{came_count}

-- Who comes has the next number, and a link too.
abbrev pub IsNext : Entry → History → Type 0
IsNext (Join c) older = c ≡ came_count older + 1
IsNext (Enter c port) older = c ≡ came_count older + 1
IsNext (Attach t kind serial) older = t ≡ plugged_count older + 1
IsNext _ older = ⊤

-- As many numbers were drawn as clients came, and as links were plugged in.
pub record IsCounted (h : History) : Type 0 where
  pub joined : (state h).joined ≡ came_count h
  pub plugged : (state h).devices.drawn ≡ plugged_count h

-- A packet is of no stream, or of one that was born; a CNXN says who the server is.
abbrev pub IsOfBorn : ℕ → Event → Type 0
IsOfBorn drawn (due_to_client client bytes) = ⊤
IsOfBorn drawn (due_to_link link packet check) = packet.command ≢ Cnxn → packet.arg0 ≤ drawn
IsOfBorn drawn (ended stream ending) = ⊤

abbrev pub AreOfBorn : History → Type 0
AreOfBorn h = All (IsOfBorn (state h).drawn) (told h)

-- Where no stream may send, the up rule changes nothing more.
pub record IsSettled (s : State) : Type 0 where
  pub state : (ups s).state ≡ s
  pub told : (ups s).told ≡ []
