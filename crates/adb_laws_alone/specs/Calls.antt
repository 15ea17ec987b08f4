-- What the streams of a model device ask of its files, in one order: commands, and whole sync requests.
use Rattle.std.specs.Prelude.{ℕ, ◌≡◌, ◌==◌, if◌then◌else◌, Bool, true, false, List, [], ◌∷◌, ◌++◌, map}
use Rattle.std.specs.List.{flat_map, list_any}
use Rattle.adb_files.specs.Entries.{Entry}
use Rattle.adb_files.specs.Requests.{Request, Stats, Lists, Receives, Sends, Quits, Fails, requests_in}
use Rattle.adb_files.specs.Served.{serve_one}
use Rattle.adb_shell_service.specs.Commands.{words_of, files_left}
use Rattle.adb_shell_service.specs.Service.{shell_answer}
use Rattle.adb_device_streams.specs.Asked.{Kind, Echoes, Syncs, Shells}

-- what is asked of the files of a device: a command, which is run when its stream is opened, or a sync request that became whole
pub data Ask : Type 0 where
  Runs : (command : List ℕ) → Ask
  Serves : (request : Request) → Ask

-- what a stream asks
pub record Call : Type 0 where
  pub caller : ℕ
  pub ask : Ask

abbrev pub call_of : ℕ → Ask → Call
call_of caller ask = record { caller = caller; ask = ask }

-- the files that it leaves, and what it is answered where it is a request
abbrev pub files_past : List Entry → Ask → List Entry
files_past files (Runs command) = files_left files (words_of command)
files_past files (Serves request) = (serve_one files request).files

abbrev pub answer_over : List Entry → Ask → List ℕ
answer_over files (Runs command) = []
answer_over files (Serves request) = (serve_one files request).answer

-- the files after calls, the first of them first
abbrev pub files_after : List Entry → List Call → List Entry
files_after files [] = files
files_after files (call ∷ more) = files_after (files_past files call.ask) more

-- what one stream asks
abbrev pub ask_if : ℕ → Call → List Ask
ask_if caller call = if call.caller == caller then call.ask ∷ [] else []

abbrev pub asks_of : ℕ → List Call → List Ask
asks_of caller calls = flat_map (ask_if caller) calls

-- the answers to the requests of a stream, each over the files that all calls before it left
abbrev pub answer_if : ℕ → List Entry → Call → List ℕ
answer_if caller files call = if call.caller == caller then answer_over files call.ask else []

abbrev pub answers_of : ℕ → List Entry → List Call → List ℕ
answers_of caller files [] = []
answers_of caller files (call ∷ more) = answer_if caller files call ++ answers_of caller (files_past files call.ask) more

-- the files that the first call of a stream finds
abbrev pub found_by : ℕ → List Entry → List Call → List Entry
found_by caller files [] = files
found_by caller files (call ∷ more) = if call.caller == caller then files else found_by caller (files_past files call.ask) more

-- what is asked is a prefix of all that is asked
abbrev pub AreFirst : List Ask → List Ask → Type 0
AreFirst asks all = (more : List Ask) × (asks ++ more ≡ all)

-- ---- what a service asks for whose text this is, and what it answers
-- whether a request ends the service
abbrev pub is_last : Request → Bool
is_last Quits = true
is_last (Fails fault) = true
is_last (Stats path) = false
is_last (Lists path) = false
is_last (Receives path) = false
is_last (Sends path mode bytes mtime) = false

-- requests up to the first that ends the service
abbrev pub up_to_last : List Request → List Request
up_to_last [] = []
up_to_last (request ∷ more) = request ∷ (if is_last request then [] else up_to_last more)

abbrev pub has_last : List Request → Bool
has_last requests = list_any is_last requests

-- a command asks once, when it is opened; a sync service asks for each of its whole requests; an echo asks for nothing
abbrev pub asks_in : Kind → List ℕ → List Ask
asks_in Echoes text = []
asks_in Syncs text = map Serves (up_to_last (requests_in text))
asks_in (Shells packets command) text = Runs command ∷ []

-- the answer of a stream's service to its text, behind the calls of all
abbrev pub answer_in : ℕ → Kind → List ℕ → List Entry → List Call → List ℕ
answer_in caller Echoes text files calls = text
answer_in caller Syncs text files calls = answers_of caller files calls
answer_in caller (Shells packets command) text files calls =
    (shell_answer (record { packets = packets; command = command; files = found_by caller files calls }) text).bytes
