use Rattle.std.proofs.Common.{◌≡◌, ◌++◌, drop}
use Rattle.std.specs.List.{flat_map}
use Rattle.adb_script.specs.Answers.{entry_word}
use Rattle.adb_script.proofs.answers.push_entries.Given as goal

abbrev pub invariant-loop-entry : goal.invariant-loop-entry
invariant-loop-entry l = l.line ++ flat_map entry_word (drop l.entry-index l.entries) ≡ l.initial.line ++ flat_map entry_word l.entries
