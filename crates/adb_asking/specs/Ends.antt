-- How a client tool ends.
use Rattle.std.specs.Prelude.{Bool, true, false}
use Rattle.adb_remote_words.specs.declared.remote.RemoteError.{RemoteError}
use Rattle.adb_remote_words.specs.declared.remote.RemoteError.TheVariants as errors
use Rattle.adb_asking.specs.declared.ends.ToolEnd.{ToolEnd}
use Rattle.adb_asking.specs.declared.ends.ToolEnd.TheVariants.{Done, Usage, ReadFault, WriteFault, OutOfMemory, Refused, BadAnswer}
use Rattle.adb_asking.specs.declared.ends.ToolEnd.TheVariants.{PortFault, TooLarge}

-- the end of a tool that got no outcome
abbrev pub end_of : RemoteError → ToolEnd
end_of (errors.Refused text) = Refused text
end_of (errors.BadAnswer offset) = BadAnswer offset
end_of errors.PortFault = PortFault
end_of errors.OutOfMemory = OutOfMemory

-- whether the sink or the note failed
abbrev pub is_write_fault : ToolEnd → Bool
is_write_fault Done = false
is_write_fault Usage = false
is_write_fault ReadFault = false
is_write_fault WriteFault = true
is_write_fault OutOfMemory = false
is_write_fault (Refused text) = false
is_write_fault (BadAnswer offset) = false
is_write_fault PortFault = false
is_write_fault TooLarge = false
