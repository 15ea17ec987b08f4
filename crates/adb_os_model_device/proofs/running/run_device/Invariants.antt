use Rattle.adb_os_model_device.specs.Running.{GoesOn}
use Rattle.adb_os_model_device.proofs.running.run_device.Given as goal

-- the turns so far
abbrev pub invariant-loop : goal.invariant-loop
invariant-loop g l =
    (goal.iterator-loop g).can_next l.iterator' × (goal.iterator-loop g).is_finite l.iterator'
    × GoesOn l.fn.daemon l.fn.input l.fn.output l.daemon l.input l.output
