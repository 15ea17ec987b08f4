use Rattle.std.proofs.Common.{length}
use Rattle.adb_remote_words.proofs.Gathering.{GathersOn, held_of}
use Rattle.adb_remote_words.proofs.frames.Frames.gather.Given as goal

abbrev pub invariant-loop-frame : goal.invariant-loop-frame
invariant-loop-frame l = GathersOn l.fn.job l.fn.self (held_of l.self-inside.framer l.self-inside.told)

abbrev pub decreases-loop-frame : goal.decreases-loop-frame
decreases-loop-frame l = length l.self-inside.framer.given
