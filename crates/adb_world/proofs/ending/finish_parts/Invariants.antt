use Rattle.std.proofs.Common.{◌-◌, ◌^◌}
use Rattle.adb_world.proofs.Finishing.{Finishing}
use Rattle.adb_world.proofs.ending.finish_parts.Given as goal

abbrev pub invariant-loop-number : goal.invariant-loop-number
invariant-loop-number l = Finishing l.after l.fn.parts l.parts

abbrev pub decreases-loop-number : goal.decreases-loop-number
decreases-loop-number l = 2 ^ 32 - l.after
