use Rattle.std.proofs.Common.{◌∙◌, ap, Option}
use Rattle.adb_outside.specs.Tables.{Rows}
use Rattle.adb_history.specs.Rows.{Client}
use Rattle.adb_hub_tables.specs.Tables.{state_of}
use Rattle.adb_hub_tables.proofs.Trackers.{all_marked}
use Rattle.adb_hub_tables.proofs.tables.Tables.mark_all.Goals as goal

pub returns-clause-state : goal.returns-clause-state
returns-clause-state c = λ tracked.
    let old = c.args.self.now in
    ap (λ (rows : Rows (Option Client)). record (state_of old) { clients = rows })
    (c.mark_each.ensures.rows ∙ all_marked old.trackers.keys old.clients.entries tracked)
