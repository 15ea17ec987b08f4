use Rattle.adb_world.specs.Settled.{HasMade, HaveWritten}
use Rattle.adb_world.proofs.settling.settle_parts.Given as goal

abbrev pub invariant-loop-steps : goal.invariant-loop-steps
invariant-loop-steps l = HasMade l.steps l.initial.parts l.parts × HaveWritten l.wrote l.parts
