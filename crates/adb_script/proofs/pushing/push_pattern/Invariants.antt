use Rattle.std.proofs.Common.{◌≡◌, ◌≤◌, ◌-◌, ◌++◌}
use Rattle.adb_script.specs.Pattern.{pattern}
use Rattle.adb_sync.specs.Chunk.{chunk_bytes}
use Rattle.adb_script.proofs.pushing.push_pattern.Given as goal

abbrev pub invariant-loop-done : goal.invariant-loop-done
invariant-loop-done l = (l.done ≤ l.size)
    × (l.text ++ chunk_bytes (pattern l.done (l.size - l.done)) ≡ l.initial.text ++ chunk_bytes (pattern 0 l.size))

abbrev pub decreases-loop-done : goal.decreases-loop-done
decreases-loop-done l = l.size - l.done
