-- The job of a tool.
use Rattle.std.specs.Prelude.{ℕ, ◌≡◌, ◌≤◌, ◌<◌, Bool, false, List, [], length, Option, Some, None, Result, Ok, Err, IfOk}
use Rattle.adb_outside.specs.Identity.{text_of_state}
use Rattle.adb_outside.specs.Outside.{Counts}
use Rattle.adb_words.specs.declared.tool.Tool.{Tool}
use Rattle.adb_words.specs.declared.tool.Tool.TheVariants.{Devices, Push, Pull, Shell, Wait}
use Rattle.adb_remote_words.specs.declared.remote.Remote.{Remote}
use Rattle.adb_remote_words.specs.declared.remote.Remote.TheVariants as remotes
use Rattle.adb_remote_words.specs.declared.words.TheConstants.{MAX_WORD}
use Rattle.adb_remote_words.specs.Words.{HasWords}
use Rattle.adb_asking.specs.declared.ends.ToolEnd.{ToolEnd}
use Rattle.adb_asking.specs.declared.ends.ToolEnd.TheVariants as ends
use Rattle.adb_asking.specs.declared.input.InputError.{InputError}
use Rattle.adb_asking.specs.declared.input.InputError.TheVariants.{ReadFault, TooLarge, OutOfMemory}
use Rattle.adb_asking.specs.declared.input.TheConstants.{MAX_INPUT}
use Rattle.adb_asking.specs.Input.{is_fault}
use Rattle.adb_asking.specs.Telling.{Sight}
use Rattle.adb_asking.specs.declared.job.Job.{Job}

-- what a server is asked for, where these bytes are to be sent
abbrev pub job_of : Tool → List ℕ → Remote
job_of Devices input = remotes.Devices
job_of (Push path mtime serial) input = remotes.Push path mtime input
job_of (Pull path serial) input = remotes.Pull path
job_of (Shell command serial) input = remotes.Shell command
job_of (Wait serial state) input = remotes.Wait serial (text_of_state state)

-- the serial of the device that is wanted
abbrev pub device_of : Tool → Option (List ℕ)
device_of Devices = None
device_of (Push path mtime serial) = serial
device_of (Pull path serial) = serial
device_of (Shell command serial) = serial
device_of (Wait serial state) = None

-- A push sends all bytes of the source, and no other tool sends any.
abbrev pub HasInput : Tool → Option (List ℕ) → List ℕ → Type 0
HasInput (Push path mtime serial) left input = left ≡ Some input
HasInput _ left input = input ≡ []

-- a serial is short enough
abbrev pub FitsSerial : Option (List ℕ) → Type 0
FitsSerial None = Unit {0}
FitsSerial (Some serial) = length serial ≤ MAX_WORD

-- the words of a tool are short enough
abbrev pub FitsTool : Tool → Type 0
FitsTool Devices = Unit {0}
FitsTool (Push path mtime serial) = (length path ≤ MAX_WORD) × FitsSerial serial
FitsTool (Pull path serial) = (length path ≤ MAX_WORD) × FitsSerial serial
FitsTool (Shell command serial) = (length command ≤ MAX_WORD) × FitsSerial serial
FitsTool (Wait serial state) = Unit {0}

abbrev pub FitsJob : Job → Type 0
FitsJob job = HasWords job.remote × FitsSerial job.on

-- how a tool ends that has no job
abbrev pub failed_input : InputError → ToolEnd
failed_input ReadFault = ends.ReadFault
failed_input TooLarge = ends.TooLarge
failed_input OutOfMemory = ends.OutOfMemory

-- whether the source failed
abbrev pub is_unread : Result Job InputError → Bool
is_unread (Ok job) = false
is_unread (Err error) = is_fault error

-- A push reads the source, and no other tool does.
abbrev pub ReadsFor : {S : Type 0} → Sight S → Tool → S → S → Bool → Type 0
ReadsFor s (Push path mtime serial) source source_new failed = Counts s.steady s.faults source source_new failed
ReadsFor s _ source source_new failed = (source_new ≡ source) × (failed ≡ false)

-- the job of a tool that has these bytes to send, or more than are sent
abbrev pub JobBy : Tool → List ℕ → Result Job InputError → Type 0
JobBy tool input (Ok job) = (job.remote ≡ job_of tool input) × (length input ≤ MAX_INPUT)
JobBy tool input (Err ReadFault) = Unit {0}
JobBy tool input (Err TooLarge) = MAX_INPUT < length input
JobBy tool input (Err OutOfMemory) = Unit {0}

pub record MakesJob {S : Type 0} (s : Sight S) (tool : Tool) (source source_new : S) (result : Result Job InputError) : Type 0 where
  pub reads : ReadsFor s tool source source_new (is_unread result)
  pub told : (input : List ℕ) → HasInput tool (s.told source) input → JobBy tool input result
  pub fits : IfOk result FitsJob
  pub device : IfOk result (λ job. job.on ≡ device_of tool)
