use Rattle.std.proofs.Common.{◌-◌, false}
use Rattle.adb_outside.specs.Outside.{Counts}
use Rattle.adb_capture.specs.declared.limits.TheConstants.{MAX_CAPTURE}
use Rattle.adb_check.proofs.Captured.{JudgingOn}
use Rattle.adb_check.proofs.capture.judge_capture.Given as goal

abbrev pub invariant-loop-judge : goal.invariant-loop-judge
invariant-loop-judge g l = record {
  judging : JudgingOn (g.S.Source.left l.fn.source) l.reader (g.S.Source.left l.source) l.entries l.judge;
  counts : Counts g.S.Source.steady g.S.Source.faults l.fn.source l.source false;
}

abbrev pub decreases-loop-judge : goal.decreases-loop-judge
decreases-loop-judge g l = MAX_CAPTURE - l.reader.offset
