use Rattle.std.specs.Prelude.{◌≡◌}
use Rattle.adb_os_record.proofs.pipe_sink.put_out.Given as goal

abbrev pub invariant-loop : goal.invariant-loop
invariant-loop g l =
    (goal.iterator-loop g).can_next l.iterator' × (goal.iterator-loop g).is_finite l.iterator'
    × (l.out.pipe ≡ l.fn.out.pipe) × (l.out.put ≡ l.fn.out.put) × (l.chunk ≡ l.fn.chunk)
