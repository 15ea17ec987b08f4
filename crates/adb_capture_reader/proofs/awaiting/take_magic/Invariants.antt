use Rattle.std.proofs.Common.{◌-◌, ◌+◌, ◌<◌, length, false}
use Rattle.adb_outside.specs.Outside.{Counts}
use Rattle.adb_capture.specs.declared.limits.TheConstants.{MAX_READ}
use Rattle.adb_capture_reader.specs.Reading.{HoldsFew, HoldsLittle}
use Rattle.adb_capture_reader.specs.Counting.{KeepsBytes}
use Rattle.adb_capture_reader.proofs.awaiting.take_magic.Given as goal

abbrev pub invariant-loop-held : goal.invariant-loop-held
invariant-loop-held g l = record {
  few : HoldsFew l.held;
  little : HoldsLittle l.fn.held → length l.held < 8 + MAX_READ;
  bytes : KeepsBytes l.fn.held (g.S.Source.left l.fn.source) l.held (g.S.Source.left l.source);
  counts : Counts g.S.Source.steady g.S.Source.faults l.fn.source l.source false;
}

abbrev pub decreases-loop-held : goal.decreases-loop-held
decreases-loop-held g l = 8 - length l.held
