use Rattle.std.specs.Prelude.{◌≡◌, Some, None, option_map}
use Rattle.std.proofs.Common.{rules, ap, sym, ◌∙◌}
use Rattle.adb_device_streams.specs.Asked.{kind_of, service_of, name_of}
use Rattle.adb_daemon.specs.Held.{view_of}
use Rattle.adb_daemon.proofs.Settling.{where_ok}
use Rattle.adb_daemon.proofs.Opens.{ignored_open, opens, refused, no_ids, ids_left}
use Rattle.adb_daemon.proofs.services.Services.open.Goals as goal

pub returns-then-packet-eq0-clause-ok : goal.returns-then-packet-eq0-clause-ok
returns-then-packet-eq0-clause-ok c = λ s taken held. ignored_open c.args.link c.args.packet.now s taken _ held (search rules)

pub returns-then-self-clause-ok : goal.returns-then-self-clause-ok
returns-then-self-clause-ok c = where_ok c.refuse.result c.refuse.ensures.ok (λ due. λ s taken held.
    opens c.args.link c.args.packet.now s taken (view_of c.args.self.now) held (search rules) None
    (no_ids c.args.packet.now c.args.self.now.table.drawn c.if-self.true) _
    (refused c.args.link c.args.packet.now s taken (view_of c.args.self.now) held c.refuse.new.due.bytes due))

pub returns-in-None-clause-ok : goal.returns-in-None-clause-ok
returns-in-None-clause-ok c =
    let name : c.service_name.result.now ≡ name_of c.args.packet.now.payload = c.service_name.ensures ∙ ap name_of c.as_slice.ensures in
    where_ok c.refuse-in-None.result c.refuse-in-None.ensures.ok (λ due. λ s taken held.
    opens c.args.link c.args.packet.now s taken (view_of c.args.self.now) held (search rules) None
    (ids_left c.args.packet.now c.args.self.now.table.drawn None c.if-self.false
    (ap service_of (sym name) ∙ (sym c.read_service.ensures ∙ ap (option_map kind_of) c.in-None.is))) _
    (refused c.args.link c.args.packet.now s taken (view_of c.args.self.now) held c.refuse-in-None.new.due.bytes due))

pub returns-in-Some-clause-ok : goal.returns-in-Some-clause-ok
returns-in-Some-clause-ok c =
    let name : c.service_name.result.now ≡ name_of c.args.packet.now.payload = c.service_name.ensures ∙ ap name_of c.as_slice.ensures in
    where_ok c.open_as.result c.open_as.ensures.ok (λ opened. λ s taken held.
    opens c.args.link c.args.packet.now s taken (view_of c.args.self.now) held (search rules) (Some (kind_of c.in-Some.asked))
    (ids_left c.args.packet.now c.args.self.now.table.drawn (Some (kind_of c.in-Some.asked)) c.if-self.false
    (ap service_of (sym name) ∙ (sym c.read_service.ensures ∙ ap (option_map kind_of) c.in-Some.is))) _
    (opened s taken held (search rules)))
