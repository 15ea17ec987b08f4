-- What a sync service answers to whole requests, and what becomes of the files (SYNC.TXT).
use Rattle.std.specs.Prelude.{ℕ, ◌+◌, bit_and, nat_lt, if◌then◌else◌, Bool, true, false, List, [], ◌∷◌, ◌++◌}
use Rattle.std.specs.Prelude.{length, Option, Some, None, option_and_then, codes}
use Rattle.std.specs.List.{flat_map}
use Rattle.adb_sync.specs.declared.answer.SyncAnswer.TheVariants as answers
use Rattle.adb_sync.specs.declared.answer.Dirent.{Dirent}
use Rattle.adb_sync.specs.declared.error.SyncFault.{SyncFault}
use Rattle.adb_sync.specs.declared.error.SyncRule.{SyncRule}
use Rattle.adb_sync.specs.declared.error.SyncRule.TheVariants as rules
use Rattle.adb_sync.specs.Answers.{answer_bytes}
use Rattle.adb_sync.specs.Chunk.{chunk_bytes}
use Rattle.adb_outside.specs.Decimal.{number_in}
use Rattle.adb_files.specs.declared.file.File.{File}
use Rattle.adb_files.specs.Entries.{Entry}
use Rattle.adb_files.specs.declared.file.FileError.{FileError}
use Rattle.adb_files.specs.declared.file.FileError.TheVariants as refusals
use Rattle.adb_files.specs.declared.stat.Stat.{Stat}
use Rattle.adb_files.specs.Paths.{is_path}
use Rattle.adb_files.specs.Files.{file_at, is_directory, refusal_text, put_refusal, read_refusal, with_file}
use Rattle.adb_files.specs.Listing.{stat_of, directory_stat, listing}
use Rattle.adb_files.specs.Requests.{Request, Stats, Lists, Receives, Sends, Quits, Fails, requests_in}

-- the text of a fault
abbrev pub rule_text : SyncRule → List ℕ
rule_text rules.UnknownId = codes "unknown sync request"
rule_text rules.PathTooLong = codes "path too long"
rule_text rules.BadSend = codes "bad send path"
rule_text rules.ChunkTooLong = codes "bad data length"
rule_text rules.BadPlace = codes "bad data id"

abbrev pub fault_text : SyncFault → List ℕ
fault_text fault = rule_text fault.rule

-- a FAIL with a text
abbrev pub fail_bytes : List ℕ → List ℕ
fail_bytes text = answer_bytes (answers.Fail text)

-- what a path shows: a directory, a file, or nothing
abbrev pub nothing_stat : Stat
nothing_stat = record { mode = 0; size = 0; mtime = 0 }

abbrev pub file_stat : Option File → Stat
file_stat None = nothing_stat
file_stat (Some file) = stat_of file

abbrev pub stat_in : List Entry → List ℕ → Stat
stat_in files path = if is_directory files path then directory_stat else file_stat (file_at path files)

abbrev pub stat_bytes_of : Stat → List ℕ
stat_bytes_of stat = answer_bytes (answers.Stat stat.mode stat.size stat.mtime)

-- the entries of a directory, and the end of the list
abbrev pub dent_bytes : Dirent → List ℕ
dent_bytes entry = answer_bytes (answers.Dent entry.mode entry.size entry.mtime entry.name)

abbrev pub list_bytes : List Dirent → List ℕ
list_bytes entries = flat_map dent_bytes entries ++ answer_bytes answers.ListEnd

-- the chunks of a file, and their end
abbrev pub file_bytes : Option File → List ℕ
file_bytes None = []
file_bytes (Some file) = chunk_bytes file.bytes ++ answer_bytes answers.ChunkEnd

abbrev pub recv_by : Option FileError → Option File → List ℕ
recv_by (Some refusal) file = fail_bytes (refusal_text refusal)
recv_by None file = file_bytes file

abbrev pub recv_bytes : List Entry → List ℕ → List ℕ
recv_bytes files path = recv_by (read_refusal files path) (file_at path files)

-- what a file keeps of a mode of 32 bits: the lowest nine
abbrev pub kept_mode : ℕ → Option ℕ
kept_mode mode = if nat_lt mode 4294967296 then Some (32768 + bit_and mode 511) else None

-- A mode is 1 to 10 decimal digits of a number of 32 bits.
abbrev pub stored_mode : List ℕ → Option ℕ
stored_mode digits = option_and_then kept_mode (number_in 10 digits)

-- the file of a SEND
abbrev pub sent_file : ℕ → ℕ → List ℕ → File
sent_file mode mtime bytes = record { mode = mode; mtime = mtime; bytes = bytes }

-- what a service gives: the files, its answer, and whether it ends
pub record Served : Type 0 where
  pub files : List Entry
  pub answer : List ℕ
  pub ended : Bool

abbrev pub answered : List Entry → List ℕ → Served
answered files answer = record { files = files; answer = answer; ended = false }

abbrev pub ended_with : List Entry → List ℕ → Served
ended_with files answer = record { files = files; answer = answer; ended = true }

-- a SEND with a good mode, by what refuses the file
abbrev pub send_by : List Entry → List ℕ → File → Option FileError → Served
send_by files path file (Some refusal) = answered files (fail_bytes (refusal_text refusal))
send_by files path file None = answered (with_file path file files) (answer_bytes answers.Okay)

abbrev pub send_moded : List Entry → List ℕ → List ℕ → ℕ → Option ℕ → Served
send_moded files path bytes mtime None = answered files (fail_bytes (codes "bad mode"))
send_moded files path bytes mtime (Some mode) = send_by files path (sent_file mode mtime bytes) (put_refusal files path (length bytes))

-- one whole request, served over the files
abbrev pub serve_one : List Entry → Request → Served
serve_one files (Stats path) = answered files (stat_bytes_of (stat_in files path))
serve_one files (Lists path) = answered files (list_bytes (listing path files))
serve_one files (Receives path) = answered files (recv_bytes files path)
serve_one files (Sends path mode bytes mtime) =
    if is_path path then send_moded files path bytes mtime (stored_mode mode)
    else answered files (fail_bytes (refusal_text refusals.BadPath))
serve_one files Quits = ended_with files []
serve_one files (Fails fault) = ended_with files (fail_bytes (fault_text fault))

-- further requests, where the service has not ended
abbrev pub then_served : Served → (List Entry → Served) → Served
then_served served more =
    if served.ended then served
    else record {
      files = (more served.files).files;
      answer = served.answer ++ (more served.files).answer;
      ended =
          (more served.files).ended;
    }

-- whole requests in order, each over the files that the one before it left
abbrev pub serve_all : List Entry → List Request → Served
serve_all files [] = answered files []
serve_all files (request ∷ more) = then_served (serve_one files request) (λ left. serve_all left more)

-- what a service makes of bytes: their whole requests, served in order
abbrev pub served : List Entry → List ℕ → Served
served files bytes = serve_all files (requests_in bytes)
