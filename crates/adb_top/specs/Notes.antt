-- The exit code and the line of the note of each status.
use Rattle.std.specs.Prelude.{ℕ, ◌≡◌, ◌≢◌, ◌⊎◌, List, ◌++◌, Option, Some, codes, decimal}
use Rattle.adb_outside.specs.Bytes.{IsPrefixOf}
use Rattle.adb_outside.specs.Outside.{Rises}
use Rattle.adb_history.specs.Refusal.{reason_text}
use Rattle.adb_history.specs.declared.refusal.Refusal.{Refusal}
use Rattle.adb_top.specs.Faults.{Rose}
use Rattle.adb_top.specs.declared.status.Status.{Status}
use Rattle.adb_top.specs.declared.status.Status.TheVariants.{Done, Usage, ReadFault, WriteFault, BadCapture, OutOfMemory, RecordFault}
use Rattle.adb_top.specs.declared.status.Status.TheVariants.{DoorFault, BadScript, Refused, BadAnswer, PortFault, TooLarge, Illegal}

-- the exit code of a status
abbrev pub code_of : Status → ℕ
code_of Done = 0
code_of Usage = 2
code_of ReadFault = 3
code_of WriteFault = 4
code_of BadCapture = 5
code_of OutOfMemory = 6
code_of RecordFault = 7
code_of DoorFault = 8
code_of BadScript = 9
code_of Refused = 11
code_of BadAnswer = 12
code_of PortFault = 13
code_of TooLarge = 15
code_of Illegal = 14

abbrev pub usage_line : List ℕ
usage_line = codes
    "usage: adbhub replay | gen <seed> <streams> | local <seed> | serve [--port <n>] [--device <serial>] [--connect <port>] [--record]"
    ++ codes " | devices | push <path> | pull <path> | shell <command> | wait <serial> <state> | check | copy <seed>\n"

abbrev pub read_fault_line : List ℕ
read_fault_line = codes "adbhub: read fault\n"

abbrev pub write_fault_line : List ℕ
write_fault_line = codes "adbhub: write fault\n"

abbrev pub out_of_memory_line : List ℕ
out_of_memory_line = codes "adbhub: out of memory\n"

abbrev pub record_fault_line : List ℕ
record_fault_line = codes "adbhub: record fault\n"

abbrev pub door_fault_line : List ℕ
door_fault_line = codes "adbhub: door fault\n"

abbrev pub illegal_history_line : List ℕ
illegal_history_line = codes "adbhub: illegal history\n"

-- the line that names a refusal
unfoldable pub bad_capture_line : Refusal → List ℕ
bad_capture_line why =
    codes "adbhub: bad capture at byte " ++ decimal why.offset
    ++ codes ": " ++ reason_text why.reason ++ codes "\n"

-- the line that names the line of a script
unfoldable pub bad_script_line : ℕ → List ℕ
bad_script_line number = codes "adbhub: bad script at line " ++ decimal number ++ codes "\n"

abbrev pub port_fault_line : List ℕ
port_fault_line = codes "adbhub: port fault\n"

abbrev pub too_large_line : List ℕ
too_large_line = codes "adbhub: input too large\n"

-- the line that shows why a server refuses what a client tool asks
unfoldable pub refused_line : List ℕ → List ℕ
refused_line shown = codes "adbhub: refused: " ++ shown ++ codes "\n"

-- the line that names the first byte of an answer which may not stand there
unfoldable pub bad_answer_line : ℕ → List ℕ
bad_answer_line offset = codes "adbhub: bad answer at byte " ++ decimal offset ++ codes "\n"

-- the line of each status but Done
abbrev pub IsLine : Status → List ℕ → Type 0
IsLine Done line = ⊥
IsLine Usage line = line ≡ usage_line
IsLine ReadFault line = line ≡ read_fault_line
IsLine WriteFault line = line ≡ write_fault_line
IsLine BadCapture line = (why : Refusal) × (line ≡ bad_capture_line why)
IsLine OutOfMemory line = line ≡ out_of_memory_line
IsLine RecordFault line = line ≡ record_fault_line
IsLine DoorFault line = line ≡ door_fault_line
IsLine BadScript line = (number : ℕ) × (line ≡ bad_script_line number)
IsLine Refused line = (shown : List ℕ) × (line ≡ refused_line shown)
IsLine BadAnswer line = (offset : ℕ) × (line ≡ bad_answer_line offset)
IsLine PortFault line = line ≡ port_fault_line
IsLine TooLarge line = line ≡ too_large_line
IsLine Illegal line = line ≡ illegal_history_line

-- A status's line stands behind what the note had.
pub record HasLine (status : Status) (had : List ℕ) (after : Option (List ℕ)) : Type 0 where
  pub line : List ℕ
  pub own : IsLine status line
  pub is : after ≡ Some (had ++ line)

-- The line of WriteFault was tried behind what the note had: it stands there whole, or a front of it where the count rose.
pub record HasTried (rose : Type 0) (had : List ℕ) (after : Option (List ℕ)) : Type 0 where
  pub last : List ℕ
  pub whole : (last ≡ write_fault_line) ⊎ (rose × IsPrefixOf last write_fault_line)
  pub is : after ≡ Some (had ++ last)

-- The note itself failed over the line that was at hand: a front of it stands there, and behind it the line of WriteFault was tried.
pub record HasFailed (hand : Status → List ℕ → Type 0) (again : Type 0) (had : List ℕ) (after : Option (List ℕ)) : Type 0 where
  pub status : Status
  pub other : status ≢ WriteFault
  pub line : List ℕ
  pub own : IsLine status line
  pub comes : hand status line
  pub cut : List ℕ
  pub front : IsPrefixOf cut line
  pub tried : HasTried again (had ++ cut) after

-- a count rose, and rose again
pub record RisesTwice (old new : ℕ) : Type 0 where
  pub mid : ℕ
  pub first : Rises old mid
  pub again : Rises mid new

-- What the note has behind what it had, by the status, by which line may be at hand, and by whether the count of the note rose.
abbrev pub NotesBy : Status → (Status → List ℕ → Type 0) → (rose again : Type 0) → List ℕ → Option (List ℕ) → Type 0
NotesBy Done hand rose again had after = after ≡ Some had
NotesBy WriteFault hand rose again had after =
    (hand WriteFault write_fault_line × HasTried rose had after) ⊎ (rose × HasFailed hand again had after)
NotesBy status hand rose again had after = HasLine status had after

abbrev pub WritesNote : {N : Type 0}
    → Status → (Status → List ℕ → Type 0) → (N → ℕ) → (N → Option (List ℕ)) → N → N → Type 0
WritesNote status hand faults written old new = (had : List ℕ) → written old ≡ Some had
    → NotesBy status hand (Rose faults old new) (RisesTwice (faults old) (faults new)) had (written new)

-- ---- which line is at hand
-- this one alone
abbrev pub IsJust : Status → List ℕ → Status → List ℕ → Type 0
IsJust status line s l = (s ≡ status) × (l ≡ line)

-- this one; where memory for it is wanting, that of OutOfMemory
abbrev pub IsLineOr : Status → List ℕ → Status → List ℕ → Type 0
IsLineOr status line s l = IsJust status line s l ⊎ IsJust OutOfMemory out_of_memory_line s l
