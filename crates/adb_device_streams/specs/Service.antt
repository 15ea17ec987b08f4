-- What a service of the device answers to all the payloads that came.
use Rattle.std.specs.Prelude.{ℕ, ◌≡◌, if◌then◌else◌, Bool, false, List, [], ◌∷◌, ◌++◌, length, take, drop, is_none}
use Rattle.std.specs.Io.{StartsWith}
use Rattle.adb_files.specs.Entries.{Entry}
use Rattle.adb_files.specs.Requests.{Request, requests_in}
use Rattle.adb_files.specs.Served.{Served, serve_all}
use Rattle.adb_files.specs.Service.{StandsFor}
use Rattle.adb_shell_service.specs.Commands.{words_of, files_left}
use Rattle.adb_shell_service.specs.Service.{Answer, shell_answer}
use Rattle.adb_shell_service.specs.Service as shell
use Rattle.adb_device_streams.specs.Asked.{Kind, Echoes, Syncs, Shells}
use Rattle.adb_device_streams.specs.declared.service.Service.{Service}
use Rattle.adb_device_streams.specs.declared.service.Service.TheVariants as services

-- a payload that came, and the files of the device when it came
pub record Came : Type 0 where
  pub bytes : List ℕ
  pub files : List Entry

-- the payloads of a service that came, the newest first, and their bytes in order
abbrev pub bytes_in : List Came → List ℕ
bytes_in [] = []
bytes_in (came ∷ before) = bytes_in before ++ came.bytes

-- the sync requests that a piece makes whole behind the bytes before it
abbrev pub completed_by : List ℕ → List ℕ → List Request
completed_by before piece = drop (length (requests_in before)) (requests_in (before ++ piece))

-- what a sync service makes of a payload: its whole requests, served over the files when it came
abbrev pub served_by : List Came → Came → Served
served_by before came = serve_all came.files (completed_by (bytes_in before) came.bytes)

-- what a sync service answers: each request is served over the files when it became whole, and what comes past the end is dropped
abbrev pub sync_more : Answer → Served → Answer
sync_more answer served = if answer.ended then answer else record { bytes = answer.bytes ++ served.answer; ended = served.ended }

abbrev pub sync_answer : List Came → Answer
sync_answer [] = record { bytes = []; ended = false }
sync_answer (came ∷ before) = sync_more (sync_answer before) (served_by before came)

-- what a service that was opened over some files answers to all that came
abbrev pub service_answer : Kind → List Entry → List Came → Answer
service_answer Echoes first past = record { bytes = bytes_in past; ended = false }
service_answer Syncs first past = sync_answer past
service_answer (Shells packets command) first past = shell_answer
    (record { packets = packets; command = command; files = first }) (bytes_in past)

-- the files behind an OPEN: a command was run
abbrev pub files_opened : Kind → List Entry → List Entry
files_opened Echoes files = files
files_opened Syncs files = files
files_opened (Shells packets command) files = files_left files (words_of command)

-- the files behind a payload: the sync requests that it makes whole were served, where the service had not ended
abbrev pub sync_files : Bool → List Entry → Served → List Entry
sync_files ended files served = if ended then files else served.files

abbrev pub files_fed : Kind → List Came → Came → List Entry
files_fed Echoes past came = came.files
files_fed Syncs past came = sync_files (sync_answer past).ended came.files (served_by past came)
files_fed (Shells packets command) past came = came.files

-- the answer of a service that was not taken yet, and whether it has ended
abbrev pub out_of : Service → List ℕ
out_of (services.Echo queue) = queue.bytes
out_of (services.Sync service) = service.out
out_of (services.Shell service) = service.out

abbrev pub ended_of : Service → Bool
ended_of (services.Echo queue) = false
ended_of (services.Sync service) = service.ended
ended_of (services.Shell service) = is_none service.input

-- what a service holds of all that came
abbrev pub Holds : Kind → List Entry → List Came → List ℕ → Service → Type 0
Holds Echoes first past taken (services.Echo queue) = Unit {0}
Holds Syncs first past taken (services.Sync service) = StandsFor (bytes_in past) service
Holds (Shells packets command) first past taken (services.Shell service) =
    shell.HasAnswered (record { packets = packets; command = command; files = first }) (bytes_in past) taken service
Holds _ _ _ _ _ = ⊥

-- A service was opened over some files, these payloads came, and these bytes of its answer were taken: the taken ones
-- and those left are its answer to all
-- that came, and it has ended where that ends it.
pub record HasAnswered (kind : Kind) (first : List Entry) (past : List Came) (taken : List ℕ) (service : Service) : Type 0 where
  pub holds : Holds kind first past taken service
  pub given_out : taken ++ out_of service ≡ (service_answer kind first past).bytes
  pub ends : ended_of service ≡ (service_answer kind first past).ended

-- Memory ran out at a payload: the files are those after a prefix of the sync requests that it makes whole, if the service had not ended.
abbrev pub HasFrontOfFiles : Kind → List Came → Came → List Entry → Type 0
HasFrontOfFiles Echoes past came files = files ≡ came.files
HasFrontOfFiles Syncs past came files =
    (k : ℕ)
    × (files ≡ sync_files (sync_answer past).ended came.files (serve_all came.files (take k (completed_by (bytes_in past) came.bytes))))
HasFrontOfFiles (Shells packets command) past came files = files ≡ came.files

-- A payload was taken, over the files that stood: the answer is that to all that came with it, and the files are those that it leaves.
pub record TakesOne (kind : Kind) (first : List Entry) (past : List Came) (taken : List ℕ) (came : Came)
    (new : Service) (left : List Entry) : Type 0 where
  pub answers : HasAnswered kind first (came ∷ past) taken new
  pub files : left ≡ files_fed kind past came

abbrev pub Takes : Came → Service → Service → List Entry → Type 0
Takes came old new left =
    (kind : Kind) (first : List Entry) (past : List Came) (taken : List ℕ) → HasAnswered kind first past taken old
    → TakesOne kind first past taken came new left

-- Memory ran out at a payload: a front of the answer was given.
pub record TakesFrontOfOne (kind : Kind) (first : List Entry) (past : List Came) (taken : List ℕ) (came : Came) (new : Service)
    (left : List Entry) : Type 0 where
  pub answer : StartsWith (service_answer kind first (came ∷ past)).bytes (taken ++ out_of new)
  pub files : HasFrontOfFiles kind past came left

abbrev pub TakesFront : Came → Service → Service → List Entry → Type 0
TakesFront came old new left =
    (kind : Kind) (first : List Entry) (past : List Came) (taken : List ℕ) → HasAnswered kind first past taken old
    → TakesFrontOfOne kind first past taken came new left

-- the same of a payload
abbrev pub came_over : List ℕ → List Entry → Came
came_over payload files = record { bytes = payload; files = files }
