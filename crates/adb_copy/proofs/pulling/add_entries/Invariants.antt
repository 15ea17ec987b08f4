use Rattle.std.proofs.Common.{◌≡◌, ◌++◌, drop}
use Rattle.std.specs.Prelude.{map}
use Rattle.adb_copy.specs.Waiting.{found_in}
use Rattle.adb_copy.proofs.pulling.add_entries.Given as goal

abbrev pub invariant-loop-entry : goal.invariant-loop-entry
invariant-loop-entry l =
    l.pending.items ++ map (found_in l.directory) (drop l.entry-index l.entries)
    ≡ l.initial.pending.items ++ map (found_in l.directory) l.entries
