use Rattle.std.specs.Prelude.{ℕ, ◌≡◌, List, Some}
use Rattle.adb_os_record.specs.Written.{GoesOut, joined}
use Rattle.adb_os_record.proofs.writing.take_all.Given as goal

abbrev pub invariant-loop : goal.invariant-loop
invariant-loop g l =
    (goal.iterator-loop g).can_next l.iterator' × (goal.iterator-loop g).is_finite l.iterator'
    × (l.input.pipe ≡ l.fn.input.pipe)
    × ((had : List ℕ) → g.K.Sink.written l.fn.sink ≡ Some had
    → GoesOut had (g.K.Sink.faults l.fn.sink) l.torn (g.K.Sink.written l.sink) (g.K.Sink.faults l.sink) (joined l.input.taken))
