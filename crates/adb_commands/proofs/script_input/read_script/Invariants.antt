use Rattle.std.proofs.Common.{◌≤◌, ◌-◌, false, length}
use Rattle.adb_outside.specs.Outside.{Counts}
use Rattle.adb_commands.specs.declared.script_input.TheConstants.{MAX_SCRIPT_READ}
use Rattle.adb_commands.proofs.ScriptReading.{ReadSo}
use Rattle.adb_commands.proofs.script_input.read_script.Given as goal

abbrev pub invariant-loop-script : goal.invariant-loop-script
invariant-loop-script g l = record {
  size : length l.script ≤ MAX_SCRIPT_READ;
  so : ReadSo (g.S.Source.left l.fn.source) (g.S.Source.left l.source) l.script;
  counts : Counts g.S.Source.steady g.S.Source.faults l.fn.source l.source false;
}

abbrev pub decreases-loop-script : goal.decreases-loop-script
decreases-loop-script g l = MAX_SCRIPT_READ - length l.script
