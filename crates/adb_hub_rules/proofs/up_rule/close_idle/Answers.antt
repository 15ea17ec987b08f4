use Rattle.std.proofs.Common.{Some, ◌≡◌, ◌∙◌, ap, sym, subst, rules}
use Rattle.std.specs.Prelude.{option_map}
use Rattle.adb_outside.specs.Tables.{at}
use Rattle.adb_stream.specs.declared.row.Stream.{Stream}
use Rattle.adb_history.specs.Events.{Made}
use Rattle.adb_history.specs.Flow.{closes_if, is_over, up}
use Rattle.adb_hub_tables.specs.Endings.{Reports}
use Rattle.adb_hub_tables.specs.Tables.{client_row, state_of}
use Rattle.adb_hub_rules.specs.Up.{all_unsent}
use Rattle.adb_hub_rules.proofs.GoingUp.{Opens, opens, up_is}
use Rattle.adb_hub_rules.proofs.StillUp.{end_alone}
use Rattle.adb_hub_tables.proofs.Using.{spares_of, spares_uses}
use Rattle.adb_hub_rules.proofs.up_rule.close_idle.Goals as goal

-- what the end makes is what the rule makes
made_is : (c : goal.After-close_over) → (stream : Stream) → at c.args.id c.args.tables.now.streams.streams ≡ Some stream
    → (row : Opens c.args.id (at stream.client c.args.tables.now.clients.entries))
    → closes_if (is_over row.seen.about.ended row.seen.held stream.part.flow) c.args.id (Some stream) (state_of c.args.tables.now)
    ≡ up c.args.id (state_of c.args.tables.now)
made_is c stream here row =
    let old = c.args.tables.now in
    end_alone c.args.id stream (state_of old) here (client_row row.seen) (all_unsent stream old) (ap (option_map client_row) row.is)
    (c.requires.idle stream here)
    ∙ up_is c.args.id stream old here row

pub returns-then-has_open-clause-state : goal.returns-then-has_open-clause-state
returns-then-has_open-clause-state c =
    let old = c.args.tables.now in
    let stream = c.in-Some.stream in
    let here : at c.args.id old.streams.streams ≡ Some stream = search rules in
    let row = opens c.args.id (at stream.client old.clients.entries) (sym c.has_open.ensures ∙ c.if-has_open.true) in
    c.close_over.ensures.state row.seen row.is ∙ ap (λ (m : Made). m.state) (made_is c stream here row)

pub returns-then-has_open-clause-reports : goal.returns-then-has_open-clause-reports
returns-then-has_open-clause-reports c =
    let old = c.args.tables.now in
    let stream = c.in-Some.stream in
    let here : at c.args.id old.streams.streams ≡ Some stream = search rules in
    let row = opens c.args.id (at stream.client old.clients.entries) (sym c.has_open.ensures ∙ c.if-has_open.true) in
    subst (λ (m : Made). Reports m.told c.args.ends.now old c.close_over.new.ends c.close_over.new.tables) (made_is c stream here row)
    (c.close_over.ensures.reports row.seen row.is)

pub returns-then-has_open-clause-uses : goal.returns-then-has_open-clause-uses
returns-then-has_open-clause-uses c =
    let old = c.args.tables.now in
    let new = c.close_over.new.tables in
    spares_uses old new (spares_of c.in-Some.stream.link 0 old new (c.close_over.ensures.uses 0))
