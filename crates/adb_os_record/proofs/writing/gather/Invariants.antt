use Rattle.std.specs.Prelude.{ℕ, ◌≡◌, List, ◌++◌}
use Rattle.adb_os_record.specs.Written.{joined}
use Rattle.adb_os_record.proofs.writing.gather.Given as goal

abbrev pub invariant-loop : goal.invariant-loop
invariant-loop g l =
    (l.input.pipe ≡ l.fn.input.pipe)
    × ((before : List ℕ) → joined l.fn.input.taken ≡ before ++ l.fn.batch → joined l.input.taken ≡ before ++ l.batch)
