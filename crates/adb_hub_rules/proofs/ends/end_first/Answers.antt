use Rattle.std.proofs.Common.{List, Some, subst, ◌≡◌, ◌∙◌, ap, sym, cond, arith}
use Rattle.std.proofs.lemmas.Bool.{eq-eqb}
use Rattle.adb_outside.specs.Tables.{at, without}
use Rattle.adb_stream.specs.Streams.{StreamTable}
use Rattle.adb_history.specs.Rows.{State}
use Rattle.adb_history.specs.Events.{Made, Event, then_also}
use Rattle.adb_history.specs.Streams.{all_end, ends_row}
use Rattle.adb_hub_tables.specs.Tables.{state_of}
use Rattle.adb_hub_tables.specs.Places.{is_on, streams_on}
use Rattle.adb_hub_rules.proofs.Ending.{IsFirst, first_of_all, its_link}
use Rattle.adb_hub_tables.specs.Endings.{Reports}
use Rattle.adb_hub_tables.proofs.Reporting.{reports_then}
use Rattle.adb_hub_tables.proofs.StreamRows.{gone_counts}
use Rattle.adb_hub_rules.proofs.ends.end_first.Goals as goal

found : (c : goal.After-end_row) → at c.args.id c.args.tables.now.streams.streams ≡ Some c.in-Some.stream
found c = sym c.get.ensures.found ∙ cc

first : (c : goal.After-end_row) → IsFirst c.args.link c.args.id (state_of c.args.tables.now) c.in-Some.stream
first c =
    let stands = c.get.ensures.sound.each c.args.id c.in-Some.stream (found c) in
    record {
      is = found c;
      on = its_link c.args.link c.in-Some.stream (at c.args.id c.args.tables.now.streams.streams) (found c) c.requires.first.here;
      some = stands.from;
      least = c.requires.first.least;
    }

-- it ends first, and then the others
first_made : (c : goal.After-end_row)
    → then_also (ends_row c.args.id c.args.ending c.in-Some.stream (state_of c.args.tables.now)) (all_end c.args.link c.args.ending)
    ≡ all_end c.args.link c.args.ending (state_of c.args.tables.now)
first_made c =
    let stands = c.get.ensures.sound.each c.args.id c.in-Some.stream (found c) in
    first_of_all c.args.link c.args.id c.args.ending (state_of c.args.tables.now) c.in-Some.stream (first c) stands.to

pub returns-in-Some-clause-state : goal.returns-in-Some-clause-state
returns-in-Some-clause-state c =
    ap (λ (then : State). (all_end c.args.link c.args.ending then).state) c.end_row.ensures.state
    ∙ ap (λ (m : Made). m.state) (first_made c)

pub returns-in-Some-clause-reports : goal.returns-in-Some-clause-reports
returns-in-Some-clause-reports c = λ log t rest.
    let old = c.args.tables.now in
    let now = c.end_row.new.tables in
    let after = subst
    (λ (then : State). Reports (all_end c.args.link c.args.ending then).told c.end_row.new.ends now log t)
    c.end_row.ensures.state rest in
    subst (λ (told : List Event). Reports told c.args.ends.now old log t) (ap (λ (m : Made). m.told) (first_made c))
    (reports_then c.end_row.ensures.reports after)

pub returns-in-Some-clause-fewer : goal.returns-in-Some-clause-fewer
returns-in-Some-clause-fewer c =
    let link = c.args.link in
    let counts = gone_counts c.args.tables.now.streams.streams c.args.id c.in-Some.stream (found c) link in
    let one : is_on link c.in-Some.stream ≡ 1 = ap (λ b. cond b 1 0) (eq-eqb c.in-Some.stream.link link (first c).on) in
    let left = without c.args.id c.args.tables.now.streams.streams in
    let now : streams_on link c.end_row.new.tables.streams.streams ≡ streams_on link left =
    ap (λ (table : StreamTable). streams_on link table.streams) c.end_row.ensures.rows in
    omega (arith, counts, one, now)
