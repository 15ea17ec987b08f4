-- Why a script is not answered, from what its parts answer.
use Rattle.std.specs.Prelude.{Bool, true, false, Result, Ok, Err}
use Rattle.adb_script.specs.declared.script.ScriptError.{ScriptError}
use Rattle.adb_script.specs.declared.script.ScriptError.TheVariants as script
use Rattle.adb_commands.specs.declared.script_stop.ScriptStop.{ScriptStop}
use Rattle.adb_commands.specs.declared.script_stop.ScriptStop.TheVariants.{ReadFault, WriteFault, OutOfMemory, BadLine}

-- where a script is refused, or not run
abbrev pub stop_of : ScriptError → ScriptStop
stop_of (script.BadLine line) = BadLine line
stop_of script.OutOfMemory = OutOfMemory

-- whether the source failed
abbrev pub is_read_stop : ScriptStop → Bool
is_read_stop ReadFault = true
is_read_stop WriteFault = false
is_read_stop OutOfMemory = false
is_read_stop (BadLine line) = false

-- whether the sink failed
abbrev pub is_write_stop : ScriptStop → Bool
is_write_stop ReadFault = false
is_write_stop WriteFault = true
is_write_stop OutOfMemory = false
is_write_stop (BadLine line) = false

-- the same of what a call answers
abbrev pub stops_reading : {T : Type 0} → Result T ScriptStop → Bool
stops_reading (Ok done) = false
stops_reading (Err why) = is_read_stop why

abbrev pub stops_writing : {T : Type 0} → Result T ScriptStop → Bool
stops_writing (Ok done) = false
stops_writing (Err why) = is_write_stop why

-- reading stops where the source failed, or memory ran out
abbrev pub IsReadStop : ScriptStop → Type 0
IsReadStop ReadFault = Unit {0}
IsReadStop WriteFault = ⊥
IsReadStop OutOfMemory = Unit {0}
IsReadStop (BadLine line) = ⊥

abbrev pub IsReadEnd : {T : Type 0} → Result T ScriptStop → Type 0
IsReadEnd (Ok done) = Unit {0}
IsReadEnd (Err why) = IsReadStop why

-- running stops where a line is refused, or memory ran out
abbrev pub IsRunStop : ScriptStop → Type 0
IsRunStop ReadFault = ⊥
IsRunStop WriteFault = ⊥
IsRunStop OutOfMemory = Unit {0}
IsRunStop (BadLine line) = Unit {0}

abbrev pub IsRunEnd : {T : Type 0} → Result T ScriptStop → Type 0
IsRunEnd (Ok done) = Unit {0}
IsRunEnd (Err why) = IsRunStop why
