use Rattle.adb_examples.proofs.Echoing.{echoed_if}
use Rattle.adb_examples.proofs.hub.echo.Goals as goal

-- src/hub.rt:20:1
pub returns : goal.returns
returns c =
    echoed_if c.new-hub.result c.attach.new.self c.recv.new.self c.join.new.self c.read.new.self c.send.new.self c.recv-2.new.self
    c.put.new.self c.in_ok-link.link c.in_ok-client.client c.in_ok-recv.field-0 c.in_ok-read.field-0 c.in_ok-recv-2.field-0
    c.in_ok-_open._open c.put.result c.new-hub.ensures c.in_ok-link.ensures.attached c.in_ok-recv.ensures.received
    c.in_ok-client.ensures.joined c.in_ok-read.ensures.read c.in_ok-_open.ensures.sent c.in_ok-recv-2.ensures.received
    c.put.ensures.put
