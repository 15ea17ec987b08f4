-- The view of a log, and the log after an entry is kept.
use Rattle.std.specs.Prelude.{ℕ, ◌+◌, ◌-◌, ◌^◌, ◌≡◌, Bool, true, false, ◌||◌, if◌then◌else◌, List, [], ◌∷◌, ◌++◌, length, Option, Some}
use Rattle.std.specs.Prelude.{None}
use Rattle.std.specs.Prelude.{option_map, is_some, Result, Ok, Err, nat_le, nat_lt, ⊤}
use Rattle.adb_outside.specs.Outside.{Rises}
use Rattle.adb_capture.specs.declared.entry.Entry.{Entry}
use Rattle.adb_capture.specs.declared.entry.Entry.TheVariants.{Join, Enter, Read, Attach, Recv, Put, Send}
use Rattle.adb_recorder.specs.declared.recorder.RecordError.{RecordError}
use Rattle.adb_recorder.specs.declared.recorder.RecordError.TheVariants.{Failed, OutOfMemory as WantOfMemory}
use Rattle.adb_hub.specs.declared.error.HubError.TheVariants.{OutOfMemory}
use Rattle.adb_hub.specs.declared.answers.Handed.{Handed}
use Rattle.adb_hub.specs.declared.answers.Handed.TheVariants.{Bytes}
use Rattle.adb_server_log.specs.declared.error.DeskError.{DeskError}
use Rattle.adb_server_log.specs.declared.error.DeskError.TheVariants.{Halted, RecordFault, Hub}
use Rattle.adb_server_log.specs.Pass.{PassView}

-- a log: what its recorder tells and how often that failed, the answer with which it is shut, the alarm, both counts, how many passes are
-- out, how many more may be made of the number that was drawn last, that number, whether the mark of the first handle
-- is lent, and the shares
-- that no pass holds
pub record LogView : Type 0 where
  pub told : Option (List Entry)
  pub faults : ℕ
  pub shut : Option DeskError
  pub alarm : Bool
  pub entries : ℕ
  pub moved : ℕ
  pub out : ℕ
  pub free : ℕ
  pub drawn : ℕ
  pub lent : Bool
  pub home_entries : ℕ
  pub home_moved : ℕ

-- a log with its recorder
pub record LogOf (R : Type 0) : Type 0 where
  pub recorder : R
  pub is : LogView

-- The recorder keeps the entry too, or the same entries as before if the log refuses it.
abbrev pub HasKept : {R : Type 0} → (R → List Entry → Type 0) → R → Entry → Result ⊤ DeskError → R → Type 0
HasKept stands before e (Ok done) after = (kept : List Entry) → stands before kept → stands after (kept ++ e ∷ [])
HasKept stands before e (Err error) after = (kept : List Entry) → stands before kept → stands after kept

-- The same of an entry that hands bytes out.
abbrev pub HasKeptHanded : {R : Type 0} → (R → List Entry → Type 0) → R → Entry → Result Handed DeskError → R → Type 0
HasKeptHanded stands before e (Ok given) after = (kept : List Entry) → stands before kept → stands after (kept ++ e ∷ [])
HasKeptHanded stands before e (Err error) after = (kept : List Entry) → stands before kept → stands after kept

-- whether a log is shut because its recorder failed
abbrev pub is_fault : Option DeskError → Bool
is_fault (Some RecordFault) = true
is_fault (Some e) = false
is_fault None = false

-- the recorder tells no entries, or does not tell
abbrev pub IsFresh : Option (List Entry) → Type 0
IsFresh None = ⊤
IsFresh (Some told) = told ≡ []

-- a log without entries
abbrev pub first_log : Option (List Entry) → LogView
first_log told = record {
  told = told;
  faults = 0;
  shut = None;
  alarm = false;
  entries = 0;
  moved = 0;
  out = 0;
  free = 0;
  drawn = 0;
  lent = false;
  home_entries = 0;
  home_moved = 0;
}

-- ---- entries
-- the bytes that an entry moves
abbrev pub moves : Entry → ℕ
moves (Read c bytes) = length bytes
moves (Recv t bytes) = length bytes
moves (Put c bytes) = length bytes
moves (Send t bytes) = length bytes
moves _ = 0

-- the number that an entry draws
abbrev pub draw_of : Entry → Option ℕ
draw_of (Join c) = Some c
draw_of (Enter c port) = Some c
draw_of (Attach t kind serial) = Some t
draw_of _ = None

-- whether an entry draws a number
abbrev pub is_draw : Entry → Bool
is_draw e = is_some (draw_of e)

-- the number that was drawn last
abbrev pub or_drawn : Option ℕ → ℕ → ℕ
or_drawn None n = n
or_drawn (Some m) n = m

-- ---- shut
-- whether a count is full: no further entry fits it
abbrev pub is_full : LogView → Bool
is_full l = nat_le (2 ^ 64 - 1) l.entries || nat_lt (2 ^ 64 - 4194304) l.moved

abbrev pub or_halted : Bool → Option DeskError → Option DeskError
or_halted full (Some e) = Some e
or_halted true None = Some Halted
or_halted false None = None

-- the answer with which a log is shut: the one that first shut it, or Halted if a count is full
abbrev pub shut_with : LogView → Option DeskError
shut_with l = or_halted (is_full l) l.shut

abbrev pub or_given : Option DeskError → DeskError → DeskError
or_given (Some e) other = e
or_given None other = other

-- ---- an entry is kept
-- the counts with one more entry, in the shares that no pass holds; a number that was drawn may have two passes
abbrev pub counting : LogView → Option ℕ → ℕ → LogView
counting l draws bytes = record l {
  entries = l.entries + 1;
  moved = l.moved + bytes;
  free = if is_some draws then 2 else l.free;
  drawn = or_drawn draws l.drawn;
  home_entries = l.home_entries + 1;
  home_moved = l.home_moved + bytes;
}

-- what is told with one more entry
abbrev pub grown : Entry → List Entry → List Entry
grown e told = told ++ e ∷ []

-- the log with one more entry, which is told and counted
abbrev pub with_entry : LogView → Entry → LogView
with_entry l e = record l {
  told = option_map (grown e) l.told;
  entries = l.entries + 1;
  moved = l.moved + moves e;
  free = if is_draw e then 2 else l.free;
  drawn = or_drawn (draw_of e) l.drawn;
  home_entries = l.home_entries + 1;
  home_moved = l.home_moved + moves e;
}

-- the answer of a log whose recorder refused an entry
abbrev pub fault_of : RecordError → DeskError
fault_of WantOfMemory = Hub OutOfMemory
fault_of Failed = RecordFault

abbrev pub shut_by : LogView → ℕ → DeskError → LogView
shut_by l faults e = record l { faults = faults; shut = Some e }

-- why a recorder shuts a log: it failed, and its count rose; or it could not allocate
abbrev pub Breaks : ℕ → ℕ → DeskError → Type 0
Breaks before after RecordFault = Rises before after
Breaks before after (Hub OutOfMemory) = after ≡ before
Breaks before after e = ⊥

-- the log after a pass is back, with its shares
abbrev pub retired : LogView → PassView → LogView
retired l pass = record l { out = l.out - 1; home_entries = l.home_entries + pass.entries; home_moved = l.home_moved + pass.moved }

-- The log keeps exactly the entry, or its recorder shuts it.
abbrev pub Keeps : LogView → Entry → Result ⊤ DeskError → LogView → Type 0
Keeps before e (Ok done) after = after ≡ with_entry before e
Keeps before e (Err error) after = (after ≡ shut_by before after.faults error) × Breaks before.faults after.faults error

-- The log keeps the entry of bytes that are handed out, and returns the bytes.
abbrev pub KeepsHanded : LogView → (List ℕ → Entry) → List ℕ → Result Handed DeskError → LogView → Type 0
KeepsHanded before e bytes (Ok given) after = (given ≡ Bytes bytes) × (after ≡ with_entry before (e bytes))
KeepsHanded before e bytes (Err error) after = (after ≡ shut_by before after.faults error) × Breaks before.faults after.faults error
