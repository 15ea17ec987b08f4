use Rattle.std.proofs.Common.{[]}
use Rattle.adb_history.specs.Drained.{drained_from}
use Rattle.adb_load.specs.Load.{load}
use Rattle.adb_run_load.proofs.Loads.{on_err, then_more, whole_front, running_stopped, running_ready, running_taken, running_on}
use Rattle.adb_run_load.proofs.Loads.{running_lost, given_first}
use Rattle.adb_run_load.proofs.run.run_load.Goals as goal

pub returns-in_err-load-clause-memory : goal.returns-in_err-load-clause-memory
returns-in_err-load-clause-memory c =
    on_err c.from_residual.result
    (then_more [] (load c.args.seed c.args.streams) c.args.hub.now (whole_front [] c.args.hub.now c.requires.new))

pub returns-in_err-entry-clause-memory : goal.returns-in_err-entry-clause-memory
returns-in_err-entry-clause-memory c = on_err c.from_residual-in_err-entry.result (running_stopped c.loop-count.invariant)

pub make-requires-clause-ready : goal.make-requires-clause-ready
make-requires-clause-ready c =
    let first = given_first c.loop-count.load c.next.new.self c.next.result c.in_ok-entry.field-0 c.in-Some.entry
    c.next.ensures.first c.in_ok-entry.was c.in-Some.is in
    running_ready c.loop-count.invariant c.in-Some.entry c.next.new.self first c.loads_are_accepted.ensures

pub loop-count-preserved : goal.loop-count-preserved
loop-count-preserved c =
    let first = given_first c.loop-count.load c.next.new.self c.next.result c.in_ok-entry.field-0 c.in-Some.entry
    c.next.ensures.first c.in_ok-entry.was c.in-Some.is in
    let taken = running_taken c.loop-count.invariant c.in-Some.entry c.next.new.self first c.loads_are_accepted.ensures in
    let made = c.in_ok-make.ensures (drained_from [] c.loop-count.invariant.inputs) c.loop-count.invariant.lawful
    c.loop-count.invariant.counted taken in
    running_on c.loop-count.invariant c.in-Some.entry c.next.new.self first c.make.new.hub c.make.new.count made

pub returns-in_err-make-clause-memory : goal.returns-in_err-make-clause-memory
returns-in_err-make-clause-memory c =
    let first = given_first c.loop-count.load c.next.new.self c.next.result c.in_ok-entry.field-0 c.in-Some.entry
    c.next.ensures.first c.in_ok-entry.was c.in-Some.is in
    let taken = running_taken c.loop-count.invariant c.in-Some.entry c.next.new.self first c.loads_are_accepted.ensures in
    let lost = c.in_err-make.ensures (drained_from [] c.loop-count.invariant.inputs) c.loop-count.invariant.lawful
    c.loop-count.invariant.counted taken in
    on_err c.from_residual-in_err-make.result
    (running_lost c.loop-count.invariant c.in-Some.entry c.next.new.self first c.make.new.hub lost)
