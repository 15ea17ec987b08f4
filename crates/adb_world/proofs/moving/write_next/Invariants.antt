use Rattle.std.proofs.Common.{◌-◌, ◌^◌}
use Rattle.adb_world.proofs.Going.{Tried, to_write}
use Rattle.adb_world.proofs.moving.write_next.Given as goal

abbrev pub invariant-loop-number : goal.invariant-loop-number
invariant-loop-number l = Tried to_write 0 l.wrote l.fn.parts l.parts

abbrev pub decreases-loop-number : goal.decreases-loop-number
decreases-loop-number l = 2 ^ 32 - l.wrote
