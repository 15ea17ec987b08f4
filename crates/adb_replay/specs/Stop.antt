-- Why a replay stops, from what its parts answer.
use Rattle.std.specs.Prelude.{ℕ, Option, Some, None}
use Rattle.adb_capture.specs.declared.error.CaptureError.{CaptureError}
use Rattle.adb_capture.specs.declared.error.CaptureError.TheVariants as capture
use Rattle.adb_history.specs.Refusal.{refusal_by}
use Rattle.adb_history.specs.declared.refusal.Refusal.{Refusal}
use Rattle.adb_entries.specs.declared.refused.Refused.TheVariants as refused
use Rattle.adb_entries.specs.declared.refused.Refused as machine
use Rattle.adb_replay.specs.declared.stop.Stop.{Stop}
use Rattle.adb_replay.specs.declared.stop.Stop.TheVariants.{ReadFault, OutOfMemory, Refused}

-- why a replay stops where an error refuses nothing
abbrev pub fault_of : CaptureError → Stop
fault_of capture.ReadFault = ReadFault
fault_of _ = OutOfMemory

abbrev pub refused_or : Option Refusal → Stop → Stop
refused_or (Some why) fault = Refused why
refused_or None fault = fault

-- why a replay stops where a reader of captures answers an error
abbrev pub stop_of : CaptureError → Stop
stop_of error = refused_or (refusal_by error) (fault_of error)

-- why a replay stops where the machine does not make the entry of a record
abbrev pub stop_at : ℕ → machine.Refused → Stop
stop_at offset (refused.Because reason) = Refused (record { offset = offset; reason = reason })
stop_at offset refused.OutOfMemory = OutOfMemory
