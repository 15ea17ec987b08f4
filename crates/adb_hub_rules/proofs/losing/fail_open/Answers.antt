use Rattle.std.proofs.Common.{Option, Some, refl, ◌≡◌, ◌∙◌, ap, sym, subst}
use Rattle.adb_outside.specs.Tables.{at}
use Rattle.adb_stream.specs.declared.row.Stream.{Stream}
use Rattle.adb_client.specs.declared.phase.Phase.TheVariants.{Streaming}
use Rattle.adb_history.specs.Rows.{State}
use Rattle.adb_history.specs.Links.{close_packet, owe_link}
use Rattle.adb_history.specs.Losing.{stream_fails}
use Rattle.adb_hub_tables.specs.Tables.{state_of}
use Rattle.adb_history.specs.declared.ending.Ending.TheVariants.{ClientFailed}
use Rattle.adb_hub_tables.specs.Endings.{Log, Records}
use Rattle.adb_hub_tables.proofs.Reporting.{records_as, records_end}
use Rattle.adb_hub_tables.proofs.Using.{uses_freed, spares_of, spares_uses}
use Rattle.adb_hub_rules.proofs.losing.fail_open.Goals as goal

pub owe_close-requires : goal.owe_close-requires
owe_close-requires c = c.drop_stream.ensures.place c.requires.counted 0 (c.requires.links c.in-Some.stream.link)

pub returns-in-Some-clause-state : goal.returns-in-Some-clause-state
returns-in-Some-clause-state c =
    let stream = c.in-Some.stream in
    let s = state_of c.args.tables.now in
    let here : at c.args.id c.args.tables.now.streams.streams ≡ Some stream = sym c.get.ensures.found ∙ cc in
    c.owe_close.ensures.state
    ∙ (ap (λ (then : State). (owe_link stream.link (close_packet c.args.id stream.part.remote) then).state) c.drop_stream.ensures.state
    ∙ ap (λ row. (stream_fails (Streaming c.args.id) c.args.cause row s).state) (sym here))

pub returns-in-Some-clause-records : goal.returns-in-Some-clause-records
returns-in-Some-clause-records c =
    let id = c.args.id in
    let stream = c.in-Some.stream in
    let old = c.args.tables.now in
    let s = state_of old in
    let here : at id old.streams.streams ≡ Some stream = sym c.get.ensures.found ∙ cc in
    let told = (stream_fails (Streaming id) c.args.cause (Some stream) s).told in
    subst (λ (row : Option Stream). Records (stream_fails (Streaming id) c.args.cause row s).told c.args.ends.now old
    c.record_failure.new.ends) (sym here)
    (subst (λ (log : Log). Records told c.args.ends.now old log) (sym c.record_failure.ensures)
    (records_as (λ rows log. refl) (records_end id (ClientFailed c.args.cause) stream c.args.ends.now old here)))

pub returns-in-Some-clause-uses : goal.returns-in-Some-clause-uses
returns-in-Some-clause-uses c =
    let old = c.args.tables.now in
    let new = c.owe_close.new.self in
    let link = c.in-Some.stream.link in
    let freed = uses_freed link 0 old c.drop_stream.new.self new (c.drop_stream.ensures.place c.requires.counted)
    (c.drop_stream.ensures.uses link 0, c.owe_close.ensures.uses 0) in
    spares_uses old new (spares_of link 0 old new freed)
