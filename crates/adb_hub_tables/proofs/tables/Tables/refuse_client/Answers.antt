use Rattle.std.proofs.Common.{◌∙◌, ap, Option, refl}
use Rattle.std.specs.Prelude.{codes}
use Rattle.adb_outside.specs.Tables.{Rows}
use Rattle.adb_reply.specs.Strings.{failed}
use Rattle.adb_history.specs.Rows.{Client, with_due}
use Rattle.adb_history.specs.Clients.{closing}
use Rattle.adb_hub_tables.specs.Tables.{state_of, refused}
use Rattle.adb_hub_tables.proofs.Closings.{fused}
use Rattle.adb_hub_tables.proofs.Using.{clients_spares, spares_uses}
use Rattle.adb_hub_tables.proofs.tables.Tables.refuse_client.Goals as goal

pub returns-clause-state : goal.returns-clause-state
returns-clause-state c =
    let old = c.args.self.now in
    ap (λ (rows : Rows (Option Client)). record (state_of old) { clients = rows })
    (c.refuse_in.ensures.rows ∙ fused c.args.client closing (with_due (failed (codes "closed")).bytes) refused
    (state_of old).clients (λ row. refl))

pub returns-clause-uses : goal.returns-clause-uses
returns-clause-uses c =
    let old = c.args.self.now in
    let new = record old { clients = c.refuse_in.new.clients } in
    spares_uses old new (clients_spares old new (record {
      links = refl;
      streams = refl;
      trackers = refl;
      room = c.refuse_in.ensures.room;
      listed = c.refuse_in.ensures.listed;
      held = c.refuse_in.ensures.held;
    }))
