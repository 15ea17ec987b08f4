use Rattle.std.proofs.Common.{◌≤◌, ◌<◌, arith, length, subst}
use Rattle.adb_hub_clients.specs.Requests.{ReadsOne}
use Rattle.adb_hub_clients.specs.declared.requests.Step.{Step}
use Rattle.adb_hub_clients.proofs.Left.{nothing_left, less_left, ends_here}
use Rattle.adb_hub_clients.proofs.plan.make_plan.Goals as goal

pub loop-reading-preserved : goal.loop-reading-preserved
loop-reading-preserved c =
    let devices = c.args.devices.now in
    let forwards = c.args.forwards.now in
    let client = c.args.client.now in
    let old = c.loop-reading.reading in
    let new = c.read_one.new.self in
    less_left devices forwards client.held client.about.selected old c.loop-reading.invariant new
    (subst (λ (step : Step). ReadsOne devices forwards client.held old step new) c.in-Again.is c.in_ok-read_one.ensures)

pub returns-in-End-clause-asked : goal.returns-in-End-clause-asked
returns-in-End-clause-asked c =
    let devices = c.args.devices.now in
    let forwards = c.args.forwards.now in
    let client = c.args.client.now in
    let old = c.loop-reading.reading in
    let new = c.read_one.new.self in
    let some : old.used < length client.held = omega (arith, c.loop-reading-test.true, c.held-held.ensures) in
    rw c.planned.ensures
    (ends_here devices forwards client.held client.about.selected old c.loop-reading.invariant new c.in-End.next some
    (subst (λ (step : Step). ReadsOne devices forwards client.held old step new) c.in-End.is c.in_ok-read_one.ensures))

pub returns-clause-asked : goal.returns-clause-asked
returns-clause-asked c =
    let client = c.args.client.now in
    let over : length client.held ≤ c.loop-reading.reading.used = omega (arith, c.loop-reading-test.false, c.held-held.ensures) in
    rw c.planned-2.ensures
    (nothing_left c.args.devices.now c.args.forwards.now client.held client.about.selected c.loop-reading.reading
    c.loop-reading.invariant over)
