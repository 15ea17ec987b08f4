-- What a reader answers of a record that is refused.
use Rattle.adb_capture.specs.declared.error.FormFault.{FormFault}
use Rattle.adb_capture.specs.declared.error.FormFault.TheVariants as form
use Rattle.adb_capture.specs.declared.error.CaptureError.{CaptureError}
use Rattle.adb_capture.specs.declared.error.CaptureError.TheVariants.{BadRecord, TooLong}

abbrev pub error_of : FormFault → CaptureError
error_of (form.BadRecord offset why) = BadRecord offset why
error_of (form.TooLong offset) = TooLong offset
