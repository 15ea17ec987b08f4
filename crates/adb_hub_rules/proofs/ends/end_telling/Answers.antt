use Rattle.std.proofs.Common.{ℕ, ◌≡◌, None, ◌∙◌, ap, sym, subst}
use Rattle.adb_outside.specs.Tables.{at}
use Rattle.adb_history.specs.Rows.{State, to_stream, none_kept}
use Rattle.adb_history.specs.Links.{close_packet, owe_link}
use Rattle.adb_history.specs.Streams.{client_loses, ends_telling, tells_end}
use Rattle.adb_hub_tables.specs.Tables.{state_of}
use Rattle.adb_hub_tables.specs.Places.{Uses}
use Rattle.adb_hub_tables.specs.Endings.{Log, Reports}
use Rattle.adb_hub_tables.proofs.Closings.{telling_is}
use Rattle.adb_hub_tables.proofs.Reporting.{Goes, reports_end, reports_as}
use Rattle.adb_hub_tables.proofs.Using.{uses_then, uses_freed}
use Rattle.adb_hub_rules.proofs.Ending.{row_gone, row_streams, row_tells}
use Rattle.adb_hub_rules.proofs.ends.end_telling.Goals as goal

pub owe_close-requires : goal.owe_close-requires
owe_close-requires c = c.drop_stream.ensures.place c.requires.counted 0 c.requires.link

-- what the rule leaves
state_is : (c : goal.After-record_end) → state_of c.client_loses.new.tables ≡
    (ends_telling c.args.id c.args.ending c.args.stream.now (state_of c.args.tables.now)).state
state_is c =
    let stream = c.args.stream.now in
    let owed = c.owe_close.ensures.state
    ∙ ap (λ (s : State). (owe_link stream.link (close_packet c.args.id stream.part.remote) s).state) c.drop_stream.ensures.state in
    c.client_loses.ensures.state
    ∙ (ap (λ (s : State). (client_loses (s.clients stream.client) stream.client s).state) owed
    ∙ telling_is c.args.id c.args.ending stream (state_of c.args.tables.now))

uses_are : (c : goal.After-record_end) (k : ℕ) → Uses c.args.stream.now.link 0 k 0 c.args.tables.now c.client_loses.new.tables
uses_are c k =
    let old = c.args.tables.now in
    let link = c.args.stream.now.link in
    let owed = uses_freed link k old c.drop_stream.new.self c.owe_close.new.self (c.drop_stream.ensures.place c.requires.counted)
    (c.drop_stream.ensures.uses link k, c.owe_close.ensures.uses k) in
    uses_then owed (c.client_loses.ensures.uses link k)

pub returns-clause-state : goal.returns-clause-state
returns-clause-state c = state_is c

pub returns-clause-reports : goal.returns-clause-reports
returns-clause-reports c =
    let id = c.args.id in
    let stream = c.args.stream.now in
    let old = c.args.tables.now in
    let new = c.client_loses.new.tables in
    let owed = (owe_link stream.link (close_packet id stream.part.remote) (state_of old)).state in
    let gone : at id new.streams.streams ≡ None =
    ap (λ (s : State). s.streams id) (state_is c)
    ∙ (ap (λ rows. rows id) (row_streams id c.args.ending stream owed).0 ∙ row_gone id stream owed c.requires.here) in
    let goes : Goes id stream old new = record { here = c.requires.here; gone = gone; owned = (uses_are c 0).owned } in
    let told = (tells_end stream.part.orphan id c.args.ending (to_stream id none_kept owed)).told in
    reports_as (row_tells id c.args.ending stream owed)
    (subst (λ (log : Log). Reports told c.args.ends.now old log new) (sym c.record_end.ensures)
    (reports_end stream.part.orphan id c.args.ending stream (to_stream id none_kept owed) c.args.ends.now old new goes))

pub returns-clause-uses : goal.returns-clause-uses
returns-clause-uses c = λ k. uses_are c k
