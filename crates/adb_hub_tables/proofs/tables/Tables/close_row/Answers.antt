use Rattle.std.proofs.Common.{ap, refl, Option}
use Rattle.adb_outside.specs.Tables.{Rows}
use Rattle.adb_history.specs.Rows.{Client}
use Rattle.adb_hub_tables.specs.Tables.{state_of}
use Rattle.adb_hub_tables.proofs.Using.{clients_spares, spares_uses}
use Rattle.adb_hub_tables.proofs.tables.Tables.close_row.Goals as goal

pub returns-clause-stays : goal.returns-clause-stays
returns-clause-stays c =
    λ no. ap (λ (rows : Rows (Option Client)). record (state_of c.args.self.now) { clients = rows })
    (c.close_in.ensures.stays no)

pub returns-clause-goes : goal.returns-clause-goes
returns-clause-goes c =
    λ yes. ap (λ (rows : Rows (Option Client)). record (state_of c.args.self.now) { clients = rows })
    (c.close_in.ensures.goes yes)

pub returns-clause-uses : goal.returns-clause-uses
returns-clause-uses c =
    let old = c.args.self.now in
    let new = record old { clients = c.close_in.new.clients } in
    spares_uses old new (clients_spares old new (record {
      links = refl;
      streams = refl;
      trackers = refl;
      room = c.close_in.ensures.room;
      listed = c.close_in.ensures.listed;
      held = c.close_in.ensures.held;
    }))
