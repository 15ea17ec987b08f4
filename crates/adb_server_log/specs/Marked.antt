-- Which answers are marked: those after which a worker may stop.
use Rattle.std.specs.Prelude.{Bool, true, false, Result, Ok, Err}
use Rattle.adb_hub.specs.declared.error.HubError.TheVariants.{Stopped, Numbers, Full}
use Rattle.adb_hub.specs.declared.answers.Handed.{Handed}
use Rattle.adb_hub.specs.declared.answers.Handed.TheVariants.{Bytes, Nothing, Done}
use Rattle.adb_hub.specs.declared.answers.Room.{Room}
use Rattle.adb_hub.specs.declared.answers.Room.TheVariants.{Shut}
use Rattle.adb_server_log.specs.declared.error.DeskError.{DeskError}
use Rattle.adb_server_log.specs.declared.error.DeskError.TheVariants.{Halted, RecordFault, Hub, Later}

-- every refusal but an allocation failure, a bad serial, a piece that does not fit now, and a number that was never drawn
abbrev pub is_marked : DeskError → Bool
is_marked Halted = true
is_marked RecordFault = true
is_marked Later = false
is_marked (Hub Stopped) = true
is_marked (Hub Numbers) = true
is_marked (Hub Full) = true
is_marked (Hub e) = false

-- of a call whose answers at Ok are not marked
abbrev pub marks_error : {P : Type 0} → Result P DeskError → Bool
marks_error (Ok n) = false
marks_error (Err e) = is_marked e

-- of a hand-out: also Done, after which nothing more will be due
abbrev pub marks_handed : Result Handed DeskError → Bool
marks_handed (Ok (Bytes b)) = false
marks_handed (Ok Nothing) = false
marks_handed (Ok Done) = true
marks_handed (Err e) = is_marked e

-- of a client's room: also Shut
abbrev pub marks_room : Result Room DeskError → Bool
marks_room (Ok Shut) = true
marks_room (Ok r) = false
marks_room (Err e) = is_marked e
