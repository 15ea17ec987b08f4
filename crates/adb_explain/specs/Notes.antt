-- The lines of the note, and the exit codes.
use Rattle.std.specs.Prelude.{ℕ, ◌≡◌, List, ◌++◌, codes, decimal}
use Rattle.adb_history.specs.Refusal.{reason_text}
use Rattle.adb_history.specs.declared.refusal.Refusal.{Refusal}
use Rattle.adb_explain.specs.declared.status.Status.{Status}
use Rattle.adb_explain.specs.declared.status.Status.TheVariants.{Done, Usage, ReadFault, WriteFault, BadCapture, OutOfMemory, Illegal}

-- the exit code of a program that ends so: those of adbhub
abbrev pub code_of : Status → ℕ
code_of Done = 0
code_of Usage = 2
code_of ReadFault = 3
code_of WriteFault = 4
code_of BadCapture = 5
code_of OutOfMemory = 6
code_of Illegal = 14

abbrev pub usage_line : List ℕ
usage_line = codes "usage: adbexplain [--lengths]\n"

abbrev pub read_fault_line : List ℕ
read_fault_line = codes "adbexplain: read fault\n"

abbrev pub write_fault_line : List ℕ
write_fault_line = codes "adbexplain: write fault\n"

abbrev pub out_of_memory_line : List ℕ
out_of_memory_line = codes "adbexplain: out of memory\n"

abbrev pub illegal_history_line : List ℕ
illegal_history_line = codes "adbexplain: illegal history\n"

-- the line that names a refusal
unfoldable pub bad_capture_line : Refusal → List ℕ
bad_capture_line why =
    codes "adbexplain: bad capture at byte " ++ (decimal why.offset
    ++ (codes ": " ++ (reason_text why.reason ++ codes "\n")))

-- the line of each status but Done
abbrev pub IsLine : Status → List ℕ → Type 0
IsLine Done line = ⊥
IsLine Usage line = line ≡ usage_line
IsLine ReadFault line = line ≡ read_fault_line
IsLine WriteFault line = line ≡ write_fault_line
IsLine BadCapture line = (why : Refusal) × (line ≡ bad_capture_line why)
IsLine OutOfMemory line = line ≡ out_of_memory_line
IsLine Illegal line = line ≡ illegal_history_line
