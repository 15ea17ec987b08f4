use Rattle.std.proofs.Common.{◌≤◌, ◌-◌, false, length}
use Rattle.adb_outside.specs.Outside.{Counts}
use Rattle.adb_asking.specs.declared.input.TheConstants.{MAX_INPUT}
use Rattle.adb_asking.proofs.Inputs.{ReadSo}
use Rattle.adb_asking.proofs.input.read_input.Given as goal

abbrev pub invariant-loop-text : goal.invariant-loop-text
invariant-loop-text g l = record {
  size : length l.text ≤ MAX_INPUT;
  so : ReadSo (g.S.Source.left l.fn.source) (g.S.Source.left l.source) l.text;
  counts : Counts g.S.Source.steady g.S.Source.faults l.fn.source l.source false;
}

abbrev pub decreases-loop-text : goal.decreases-loop-text
decreases-loop-text g l = MAX_INPUT - length l.text
