-- A shell service: what it answers to all that it was fed.
use Rattle.std.specs.Prelude.{ℕ, ◌≡◌, ◌==◌, ◌&&◌, if◌then◌else◌, Bool, true, false, List, [], ◌∷◌, ◌++◌, Option, Some, None, is_some}
use Rattle.std.specs.Prelude.{is_none, codes, bytes_eq}
use Rattle.adb_shell.specs.declared.packet.ShellPacket.{ShellPacket}
use Rattle.adb_shell.specs.declared.packet.ShellFault.{ShellFault}
use Rattle.adb_shell.specs.Packets.{Reading, packets_in, fault_in, StandsFor}
use Rattle.adb_files.specs.Entries.{Entry}
use Rattle.adb_shell_service.specs.declared.output.TheConstants.{STDIN, STDOUT, CLOSE_STDIN}
use Rattle.adb_shell_service.specs.Commands.{words_of, outcome_of}
use Rattle.adb_shell_service.specs.Output.{output_bytes, exit_bytes, spelled}

-- what a service answers, and whether it has ended then
pub record Answer : Type 0 where
  pub bytes : List ℕ
  pub ended : Bool

-- an answer and what follows it, where the service goes on
abbrev pub then_answered : Answer → Answer → Answer
then_answered first more = if first.ended then first else record { bytes = first.bytes ++ more.bytes; ended = more.ended }

-- what is answered to a packet of input: its bytes as output, and at the end of the input the status
abbrev pub packet_answer : ShellPacket → Answer
packet_answer packet =
    if packet.id == CLOSE_STDIN then record { bytes = exit_bytes 0; ended = true }
    else record { bytes = if packet.id == STDIN then output_bytes STDOUT packet.bytes else []; ended = false }

-- what is answered to packets of input, up to the end of it; a fault behind them ends the service with no status
abbrev pub input_answer : List ShellPacket → Option ShellFault → Answer
input_answer [] fault = record { bytes = []; ended = is_some fault }
input_answer (packet ∷ more) fault = then_answered (packet_answer packet) (input_answer more fault)

-- what a service was opened for: whether its streams are packets, the command, and the files at that moment
pub record Opening : Type 0 where
  pub packets : Bool
  pub command : List ℕ
  pub files : List Entry

-- whether a command writes what its input is: `cat` with no other word
abbrev pub is_echo_of_input : List (List ℕ) → Bool
is_echo_of_input [] = false
is_echo_of_input (word ∷ []) = bytes_eq word (codes "cat")
is_echo_of_input (word ∷ another ∷ more) = false

abbrev pub reads_input : Opening → Bool
reads_input opening = opening.packets && is_echo_of_input (words_of opening.command)

-- what a command answers that reads no input: all that it writes, and the end
abbrev pub command_answer : Opening → Answer
command_answer opening = record { bytes = spelled opening.packets (outcome_of opening.files (words_of opening.command)); ended = true }

-- what a service answers to all that it was fed
abbrev pub shell_answer : Opening → List ℕ → Answer
shell_answer opening fed = if reads_input opening then input_answer (packets_in fed) (fault_in fed) else command_answer opening

-- the reader of input of a service that goes on, the answer that was not taken yet, and whether the service is spent by want of memory
pub record Held : Type 0 where
  pub input : Option Reading
  pub out : List ℕ
  pub spent : Bool

-- a service that goes on reads input: what its reader holds is that of all bytes fed, and the answer to them does not end it
pub record IsReading (opening : Opening) (fed : List ℕ) (reading : Reading) : Type 0 where
  pub input : reads_input opening ≡ true
  pub goes_on : (shell_answer opening fed).ended ≡ false
  pub stands : StandsFor fed (packets_in fed) reading

abbrev pub Reads : Opening → List ℕ → Option Reading → Type 0
Reads opening fed None = (shell_answer opening fed).ended ≡ true
Reads opening fed (Some reading) = IsReading opening fed reading

-- A service that was opened so, that was fed these bytes and of whose answer these were taken: the taken ones and
-- those that are left are its answer to all the
-- bytes, and it has ended where that ends it.
pub record HasAnswered (opening : Opening) (fed taken : List ℕ) (service : Held) : Type 0 where
  pub reads : Reads opening fed service.input
  pub given_out : taken ++ service.out ≡ (shell_answer opening fed).bytes
  pub ends : is_none service.input ≡ (shell_answer opening fed).ended

-- the same, as what a call leaves of the reader and of the answer, and whether it says that the service has ended
pub record Answers (opening : Opening) (fed taken : List ℕ) (reading : Reading) (out : List ℕ) (ended : Bool) : Type 0 where
  pub reads : ended ≡ false → IsReading opening fed reading
  pub given_out : taken ++ out ≡ (shell_answer opening fed).bytes
  pub ends : ended ≡ (shell_answer opening fed).ended

-- The packets that a reader gives were answered, up to the end of the input: their answer stands behind what was
-- there, and where no end came the
-- reader has none left.
pub record AnswersGiven (old new : Reading) (out out' : List ℕ) (closed : Bool) : Type 0 where
  pub answer : out' ≡ out ++ (input_answer old.given None).bytes
  pub ends : closed ≡ (input_answer old.given None).ended
  pub empty : closed ≡ false → new ≡ record old { given = [] }
