use Rattle.std.proofs.Common.{length, ◌-◌}
use Rattle.adb_outside.proofs.Framers.{Cutting}
use Rattle.adb_outside.proofs.behind.cut.Given as goal

abbrev pub invariant-loop-front : goal.invariant-loop-front
invariant-loop-front g l = Cutting g.S.Format.find g.S.Format.item g.S.Format.after (record {
  start = l.fn.from;
  bytes = l.bytes;
  before = l.fn.ready.items;
  given = l.ready.items;
  reading = l.format;
  place = l.at;
  front = l.front;
})

abbrev pub decreases-loop-front : goal.decreases-loop-front
decreases-loop-front g l = length l.bytes - l.at
