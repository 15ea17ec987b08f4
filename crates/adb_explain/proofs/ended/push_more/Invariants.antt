use Rattle.std.proofs.Common.{◌≡◌, ◌++◌, take}
use Rattle.std.specs.List.{flat_map}
use Rattle.adb_explain.specs.Lines.{next_ended}
use Rattle.adb_explain.proofs.ended.push_more.Given as goal

abbrev pub invariant-loop-ended : goal.invariant-loop-ended
invariant-loop-ended l = l.text ≡ l.fn.text ++ flat_map next_ended (take l.ended-index l.ends)
