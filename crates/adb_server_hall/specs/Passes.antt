-- Passes and marks after calls.
use Rattle.std.specs.Prelude.{ℕ, ◌≡◌, ◌≤◌, Bool, true, false, ◌||◌, length, option_map, Option, Result, Ok, Err, ⊤}
use Rattle.adb_hub.specs.declared.error.HubError.TheVariants.{OutOfMemory}
use Rattle.adb_hub.specs.declared.answers.Handed.{Handed}
use Rattle.adb_hub.specs.declared.answers.Handed.TheVariants.{Bytes, Nothing, Done}
use Rattle.adb_hub.specs.declared.answers.Room.{Room}
use Rattle.adb_hub.specs.declared.answers.Room.TheVariants as room
use Rattle.adb_hub.specs.declared.answers.Room.TheVariants.{Bytes as Space, Shut}
use Rattle.adb_server_log.specs.declared.error.DeskError.{DeskError}
use Rattle.adb_server_log.specs.declared.error.DeskError.TheVariants.{Halted, RecordFault, Hub, Later}
use Rattle.adb_server_log.specs.Log.{LogView}
use Rattle.adb_server_log.specs.Pass.{PassView, first_pass, noted}
use Rattle.adb_server_log.specs.Marked.{is_marked}
use Rattle.adb_desk.specs.declared.act.Progress.{Progress}
use Rattle.adb_desk.specs.Acts.{marks_progress}

-- whether an allocation failed
abbrev pub is_starved : DeskError → Bool
is_starved (Hub OutOfMemory) = true
is_starved error = false

-- a pass after a refusal; Later has no effect
abbrev pub after_error : PassView → DeskError → PassView
after_error p Later = p
after_error p Halted = noted p false 0 true false
after_error p RecordFault = noted p false 0 true false
after_error p (Hub error) = noted p false 0 (is_marked (Hub error)) (is_starved (Hub error))

-- a pass after an act of so many bytes
abbrev pub after_submit : PassView → ℕ → Result Progress DeskError → PassView
after_submit p n (Ok progress) = noted p true n (marks_progress (Ok progress)) false
after_submit p n (Err error) = after_error p error

-- a pass after a hand-out
abbrev pub after_handed : PassView → Result Handed DeskError → PassView
after_handed p (Ok (Bytes bytes)) = noted p true (length bytes) false false
after_handed p (Ok Nothing) = p
after_handed p (Ok Done) = noted p false 0 true false
after_handed p (Err error) = after_error p error

-- a pass after it asked for room
abbrev pub after_room : PassView → Result Room DeskError → PassView
after_room p (Ok (Space n)) = p
after_room p (Ok room.Later) = p
after_room p (Ok Shut) = noted p false 0 true false
after_room p (Err error) = after_error p error

-- Two passes of one number were made. That of the reader has counted the entry by which it came.
abbrev pub ArePair : PassView → PassView → Type 0
ArePair reading writing = (reading ≡ first_pass reading.number 1) × (writing ≡ first_pass reading.number 0)

-- the mark of a handle, if it has one, after a call without a pass
abbrev pub or_marked : Bool → Option Bool → Option Bool
or_marked marked mark = option_map (λ set. set || marked) mark

-- What a pass may note of a call: the desk made the entry, and if the answer is marked it set its alarm.
abbrev pub MayNoteError : LogView → DeskError → Type 0
MayNoteError l error = is_marked error ≡ true → l.alarm ≡ true

abbrev pub MayNoteSubmit : LogView → Result Progress DeskError → ℕ → Type 0
MayNoteSubmit l (Ok progress) n = (1 ≤ l.home_entries) × (n ≤ l.home_moved) × (marks_progress (Ok progress) ≡ true → l.alarm ≡ true)
MayNoteSubmit l (Err error) n = MayNoteError l error

abbrev pub MayNoteHanded : LogView → Result Handed DeskError → Type 0
MayNoteHanded l (Ok (Bytes bytes)) = (1 ≤ l.home_entries) × (length bytes ≤ l.home_moved)
MayNoteHanded l (Ok Nothing) = ⊤
MayNoteHanded l (Ok Done) = l.alarm ≡ true
MayNoteHanded l (Err error) = MayNoteError l error

abbrev pub MayNoteRoom : LogView → Result Room DeskError → Type 0
MayNoteRoom l (Ok (Space n)) = ⊤
MayNoteRoom l (Ok room.Later) = ⊤
MayNoteRoom l (Ok Shut) = l.alarm ≡ true
MayNoteRoom l (Err error) = MayNoteError l error
