use Rattle.adb_device_streams.proofs.Syncing.{at_err}
use Rattle.adb_daemon.proofs.Treating.{treats_next, stops_next}
use Rattle.adb_daemon.proofs.daemon.treat_all.Goals as goal

pub loop-packet-preserved : goal.loop-packet-preserved
loop-packet-preserved c =
    treats_next c.args.deframer.now c.args.machine.now c.loop-packet.deframer c.loop-packet.machine
    c.loop-packet.invariant c.in-Some.packet c.next.new.self
    c.in-Some.ensures.given c.step.new.self c.in_ok-step.ensures.ok c.step.ensures.setting

pub loop-packet-preserved-in_ok-step : goal.loop-packet-preserved-in_ok-step
loop-packet-preserved-in_ok-step c =
    treats_next c.args.deframer.now c.args.machine.now c.loop-packet.deframer c.loop-packet.machine
    c.loop-packet.invariant c.in-Some.packet c.next.new.self
    c.in-Some.ensures.given c.step.new.self c.in_ok-step.ensures.ok c.step.ensures.setting

pub returns-in_err-step-clause-front : goal.returns-in_err-step-clause-front
returns-in_err-step-clause-front c = at_err _ c.from_residual.result
    (stops_next c.args.deframer.now c.args.machine.now c.loop-packet.deframer c.loop-packet.machine
    c.loop-packet.invariant c.in-Some.packet c.next.new.self
    c.in-Some.ensures.given c.step.new.self c.in_err-step.ensures.due c.in_err-step.ensures.err)
