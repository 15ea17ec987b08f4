use Rattle.std.proofs.Common.{◌-◌}
use Rattle.std.specs.Prelude.{option_map}
use Rattle.adb_remote.specs.Sending.{seen}
use Rattle.adb_remote.proofs.Writes.{SaidSo}
use Rattle.adb_remote.proofs.saying.say_up_to.Given as goal

abbrev pub invariant-loop-said : goal.invariant-loop-said
invariant-loop-said g l =
    SaidSo g.O.PortOut.steady (seen g.O.PortOut.faults g.O.PortOut.written g.O.PortOut.closed) l.fn.job
    (option_map (λ text. text.now) l.fn.on)
    l.fn.from l.fn.to l.said l.fn.output l.output

abbrev pub decreases-loop-said : goal.decreases-loop-said
decreases-loop-said g l = l.fn.to - l.said
