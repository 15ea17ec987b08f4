-- How a machine refuses what its hub refuses.
use Rattle.std.specs.Prelude.{Result, Ok, Err}
use Rattle.adb_history.specs.declared.refusal.Reason.TheVariants.{NotDrawn, TooManyDevices, BadSerial as BadSerialReason}
use Rattle.adb_hub.specs.declared.error.HubError.{HubError}
use Rattle.adb_hub.specs.declared.error.HubError.TheVariants.{Stopped, NoClient, NoLink, Numbers, Full, BadSerial, OutOfMemory}
use Rattle.adb_entries.specs.declared.refused.Refused.{Refused}
use Rattle.adb_entries.specs.declared.refused.Refused.TheVariants as refused

abbrev pub refused_by : HubError → Refused
refused_by Stopped = refused.Because NotDrawn
refused_by (NoClient c) = refused.Because NotDrawn
refused_by (NoLink t) = refused.Because NotDrawn
refused_by Numbers = refused.Because NotDrawn
refused_by Full = refused.Because TooManyDevices
refused_by BadSerial = refused.Because BadSerialReason
refused_by OutOfMemory = refused.OutOfMemory

-- what a machine answers where its hub answers so
abbrev pub applied_as : {A : Type 0} → Result A HubError → Result (Unit {0}) Refused
applied_as (Ok told) = Ok tt
applied_as (Err why) = Err (refused_by why)
