use Rattle.std.proofs.Common.{length}
use Rattle.adb_files.specs.Files.{behind}
use Rattle.adb_script.specs.Told.{texts_of}
use Rattle.adb_copying.proofs.Shows.{Shows}
use Rattle.adb_copying.proofs.showing.lines_in.Given as goal

abbrev pub invariant-loop-path : goal.invariant-loop-path
invariant-loop-path l = Shows l.files l.after (texts_of l.lines.items)

abbrev pub decreases-loop-path : goal.decreases-loop-path
decreases-loop-path l = length (behind l.after l.files)
