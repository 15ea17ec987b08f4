-- Why a capture is refused: an offset, and a reason with its text.
use Rattle.std.specs.Prelude.{ℕ, List, Option, Some, None, codes}
use Rattle.adb_capture.specs.declared.error.Why.{Why}
use Rattle.adb_capture.specs.declared.error.Why.TheVariants as record_fault
use Rattle.adb_capture.specs.declared.error.CaptureError.{CaptureError}
use Rattle.adb_capture.specs.declared.error.CaptureError.TheVariants as capture
use Rattle.adb_history.specs.declared.refusal.Refusal.{Refusal}
use Rattle.adb_history.specs.declared.refusal.Reason.{Reason}
use Rattle.adb_history.specs.declared.refusal.Reason.TheVariants.{BadMagic, Truncated, UnknownKind, RecordTooLong, CaptureTooLarge, BadForm}
use Rattle.adb_history.specs.declared.refusal.Reason.TheVariants.{NotDrawn}
use Rattle.adb_history.specs.declared.refusal.Reason.TheVariants.{TooManyDevices, BadSerial}

abbrev pub reason_text : Reason → List ℕ
reason_text BadMagic = codes "bad magic"
reason_text Truncated = codes "truncated"
reason_text UnknownKind = codes "unknown kind"
reason_text RecordTooLong = codes "record too long"
reason_text CaptureTooLarge = codes "capture too large"
reason_text BadForm = codes "bad form"
reason_text NotDrawn = codes "number not drawn"
reason_text TooManyDevices = codes "too many devices"
reason_text BadSerial = codes "bad serial"

abbrev pub refused_at : ℕ → Reason → Option Refusal
refused_at offset reason = Some (record { offset = offset; reason = reason })

abbrev pub reason_of : Why → Reason
reason_of record_fault.UnknownKind = UnknownKind
reason_of record_fault.BadForm = BadForm
reason_of record_fault.TooLarge = RecordTooLong

-- why a capture is refused whose reader answers an error; a failed source and want of memory refuse nothing
abbrev pub refusal_by : CaptureError → Option Refusal
refusal_by capture.BadMagic = refused_at 0 BadMagic
refusal_by (capture.BadRecord offset why) = refused_at offset (reason_of why)
refusal_by (capture.Truncated offset) = refused_at offset Truncated
refusal_by (capture.TooLong offset) = refused_at offset CaptureTooLarge
refusal_by capture.ReadFault = None
refusal_by capture.OutOfMemory = None
