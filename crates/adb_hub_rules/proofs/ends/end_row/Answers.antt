use Rattle.std.proofs.Common.{◌≡◌, None, ◌∙◌, ap, sym, subst}
use Rattle.adb_outside.specs.Tables.{at}
use Rattle.adb_stream.specs.Streams.{StreamTable}
use Rattle.adb_history.specs.Rows.{State, to_stream, none_kept}
use Rattle.adb_history.specs.Streams.{tells_end}
use Rattle.adb_hub_tables.specs.Tables.{state_of}
use Rattle.adb_hub_tables.specs.Endings.{Log, Reports}
use Rattle.adb_hub_tables.proofs.Reporting.{Goes, reports_end, reports_as}
use Rattle.adb_hub_tables.proofs.Using.{uses_then}
use Rattle.adb_hub_rules.proofs.Ending.{row_gone, row_tells}
use Rattle.adb_hub_rules.proofs.ends.end_row.Goals as goal

pub returns-clause-reports : goal.returns-clause-reports
returns-clause-reports c =
    let id = c.args.id in
    let stream = c.args.stream.now in
    let old = c.args.tables.now in
    let new = c.client_loses.new.tables in
    let s = state_of old in
    let gone : at id new.streams.streams ≡ None =
    ap (λ (table : StreamTable). at id table.streams) c.client_loses.ensures.streams
    ∙ (ap (λ (s : State). s.streams id) c.drop_stream.ensures.state ∙ row_gone id stream s c.requires.here) in
    let goes : Goes id stream old new =
    record {
      here = c.requires.here;
      gone = gone;
      owned =
          (uses_then (c.drop_stream.ensures.uses 0 0) (c.client_loses.ensures.uses 0 0)).owned;
    } in
    let told = (tells_end stream.part.orphan id c.args.ending (to_stream id none_kept s)).told in
    reports_as (row_tells id c.args.ending stream s)
    (subst (λ (log : Log). Reports told c.args.ends.now old log new) (sym c.record_end.ensures)
    (reports_end stream.part.orphan id c.args.ending stream (to_stream id none_kept s) c.args.ends.now old new goes))

pub returns-clause-uses : goal.returns-clause-uses
returns-clause-uses c = λ t k. uses_then (c.drop_stream.ensures.uses t k) (c.client_loses.ensures.uses t k)
