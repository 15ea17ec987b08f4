use Rattle.std.proofs.Common.{arith}
use Rattle.adb_load.proofs.Cycles.{first_more, prepared}
use Rattle.adb_load.proofs.patterns.first_bytes.Goals as goal

pub loop-place-preserved : goal.loop-place-preserved
loop-place-preserved c = rw c.in_ok-push.ensures.items (first_more c.loop-place.place c.loop-place.bytes.items c.loop-place.invariant)

pub returns : goal.returns
returns c = prepared c.loop-place.place c.args.len c.loop-place.bytes.items c.loop-place.invariant (omega (arith, c.loop-place-test.false))
