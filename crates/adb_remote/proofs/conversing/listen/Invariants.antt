use Rattle.std.specs.Prelude.{option_map}
use Rattle.adb_remote.specs.Sending.{seen}
use Rattle.adb_remote.specs.Conversing.{inlet, ports_of}
use Rattle.adb_remote.proofs.Talks.{TalksSo}
use Rattle.adb_remote.proofs.conversing.listen.Given as goal

abbrev pub invariant-loop : goal.invariant-loop
invariant-loop g l =
    (goal.iterator-loop g).can_next l.iterator' × (goal.iterator-loop g).is_finite l.iterator'
    × TalksSo (ports_of g.I.PortIn.steady (inlet g.I.PortIn.faults g.I.PortIn.left) g.O.PortOut.steady
    (seen g.O.PortOut.faults g.O.PortOut.written g.O.PortOut.closed))
    l.fn.job (option_map (λ text. text.now) l.fn.on) l.fn.input l.input l.fn.output l.output l.reading
