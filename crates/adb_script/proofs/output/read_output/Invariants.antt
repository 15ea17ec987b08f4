use Rattle.std.proofs.Common.{length}
use Rattle.adb_shell.specs.Packets.{packets_in}
use Rattle.adb_script.specs.Output.{Tells}
use Rattle.adb_script.proofs.output.read_output.Given as goal

abbrev pub invariant-loop-packet : goal.invariant-loop-packet
invariant-loop-packet l = Tells (packets_in l.got) l.reader.given l.output

abbrev pub decreases-loop-packet : goal.decreases-loop-packet
decreases-loop-packet l = length l.reader.given
