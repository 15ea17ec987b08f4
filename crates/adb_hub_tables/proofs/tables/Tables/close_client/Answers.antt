use Rattle.adb_hub_tables.proofs.Using.{uses_then}
use Rattle.adb_hub_tables.proofs.tables.Tables.close_client.Goals as goal

pub returns-then-close_row-clause-uses : goal.returns-then-close_row-clause-uses
returns-then-close_row-clause-uses c = λ t k. uses_then (c.close_row.ensures.uses t k) (c.drop_client.ensures.uses t k)
