use Rattle.std.proofs.Common.{◌≡◌, ◌+◌, ◌-◌, length, false}
use Rattle.adb_capture.specs.declared.limits.TheConstants.{RECORD_HEADER_LEN, MAX_DATA}
use Rattle.adb_outside.specs.Outside.{Counts}
use Rattle.adb_capture_reader.specs.Reading.{HoldsFew, HoldsLittle}
use Rattle.adb_capture_reader.specs.Awaiting.{HoldsLittlePast}
use Rattle.adb_capture_reader.specs.Counting.{KeepsBytes}
use Rattle.adb_capture.specs.Records.{record_at}
use Rattle.adb_capture_reader.proofs.awaiting.await_record.Given as goal

abbrev pub invariant-loop-found : goal.invariant-loop-found
invariant-loop-found g l = record {
  found : l.found ≡ record_at l.offset l.held;
  few : HoldsFew l.held;
  little : HoldsLittle l.fn.held → HoldsLittlePast l.offset l.held;
  bytes : KeepsBytes l.fn.held (g.S.Source.left l.fn.source) l.held (g.S.Source.left l.source);
  counts : Counts g.S.Source.steady g.S.Source.faults l.fn.source l.source false;
}

abbrev pub decreases-loop-found : goal.decreases-loop-found
decreases-loop-found g l = (RECORD_HEADER_LEN + MAX_DATA) - length l.held
