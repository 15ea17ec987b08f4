use Rattle.std.proofs.Common.{rules, ◌≡◌, ◌∙◌, ap, sym, subst, Option, Some, length}
use Rattle.adb_outside.specs.Tables.{at}
use Rattle.adb_stream.specs.declared.row.Stream.{Stream}
use Rattle.adb_history.specs.Events.{Made}
use Rattle.adb_hub_tables.specs.Endings.{Reports}
use Rattle.adb_hub_rules.specs.Handing.{UsesOf}
use Rattle.adb_hub_rules.specs.Up.{all_unsent, writes_of}
use Rattle.adb_hub_rules.proofs.UsingOf.{uses_more}
use Rattle.adb_hub_rules.proofs.GoingUp.{opens, up_is}
use Rattle.adb_hub_rules.proofs.Sweeping.{ready_to_send, fewer_writes, leaves_be, same_devices}
use Rattle.adb_hub_rules.proofs.up_rule.up.Goals as goal

pub send_up-requires-clause-ready : goal.send_up-requires-clause-ready
send_up-requires-clause-ready c =
    let old = c.args.tables.now in
    let here : at c.args.id old.streams.streams ≡ Some c.in-Some.stream = search rules in
    ready_to_send c.args.id c.in-Some.stream old here (sym c.has_open.ensures ∙ c.if-has_open.true) c.requires.ready

pub returns-then-has_open-clause-state : goal.returns-then-has_open-clause-state
returns-then-has_open-clause-state c =
    let old = c.args.tables.now in
    let stream = c.in-Some.stream in
    let here : at c.args.id old.streams.streams ≡ Some stream = search rules in
    let row = opens c.args.id (at stream.client old.clients.entries) (sym c.has_open.ensures ∙ c.if-has_open.true) in
    c.send_up.ensures.state row.seen row.is ∙ ap (λ (m : Made). m.state) (up_is c.args.id stream old here row)

pub returns-then-has_open-clause-reports : goal.returns-then-has_open-clause-reports
returns-then-has_open-clause-reports c =
    let old = c.args.tables.now in
    let stream = c.in-Some.stream in
    let here : at c.args.id old.streams.streams ≡ Some stream = search rules in
    let row = opens c.args.id (at stream.client old.clients.entries) (sym c.has_open.ensures ∙ c.if-has_open.true) in
    subst (λ (m : Made). Reports m.told c.args.ends.now old c.send_up.new.ends c.send_up.new.tables) (up_is c.args.id stream old here row)
    (c.send_up.ensures.reports row.seen row.is)

pub returns-then-has_open-clause-uses : goal.returns-then-has_open-clause-uses
returns-then-has_open-clause-uses c = λ k.
    let old = c.args.tables.now in
    let new = c.send_up.new.tables in
    let stream = c.in-Some.stream in
    let here : at c.args.id old.streams.streams ≡ Some stream = search rules in
    let fewer = fewer_writes c.args.id stream old here (sym c.has_open.ensures ∙ c.if-has_open.true) in
    subst (λ (row : Option Stream). UsesOf row (writes_of c.args.id row old) k 0 old new) (sym here)
    (uses_more (length (all_unsent stream old)) (writes_of c.args.id (Some stream) old) fewer (c.send_up.ensures.uses k))

pub returns-then-has_open-clause-others : goal.returns-then-has_open-clause-others
returns-then-has_open-clause-others c = λ l other.
    let old = c.args.tables.now in
    let new = c.send_up.new.tables in
    let stream = c.in-Some.stream in
    let here : at c.args.id old.streams.streams ≡ Some stream = search rules in
    let row = opens c.args.id (at stream.client old.clients.entries) (sym c.has_open.ensures ∙ c.if-has_open.true) in
    leaves_be c.args.id stream old new here row c.send_up.ensures.others (all_unsent stream old)
    (c.send_up.ensures.state row.seen row.is) l other

pub returns-then-has_open-clause-devices : goal.returns-then-has_open-clause-devices
returns-then-has_open-clause-devices c =
    let old = c.args.tables.now in
    let new = c.send_up.new.tables in
    let stream = c.in-Some.stream in
    let here : at c.args.id old.streams.streams ≡ Some stream = search rules in
    let row = opens c.args.id (at stream.client old.clients.entries) (sym c.has_open.ensures ∙ c.if-has_open.true) in
    same_devices c.args.id stream old new here row c.send_up.ensures.others (all_unsent stream old)
    (c.send_up.ensures.state row.seen row.is)
