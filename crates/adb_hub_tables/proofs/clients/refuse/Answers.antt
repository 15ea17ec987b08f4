use Rattle.std.proofs.Common.{ℕ, List, ◌++◌, sym, ◌∙◌, ap, Some}
use Rattle.adb_client.specs.Client.{SeenClient}
use Rattle.adb_hub_tables.specs.Tables.{client_row, shut_row}
use Rattle.adb_hub_tables.proofs.Closings.{refused_is}
use Rattle.adb_hub_tables.proofs.clients.refuse.Goals as goal

pub returns-clause-row : goal.returns-clause-row
returns-clause-row c =
    let row = client_row c.args.client.now in
    let shut_one = c.shut.ensures.row
    ∙ (ap (λ (seen : SeenClient). shut_row (client_row seen)) c.owe_slice_spare.ensures
    ∙ ap (λ (bytes : List ℕ). shut_row (record row { due = row.due ++ bytes })) c.from_static.ensures) in
    refused_is row ∙ sym (ap Some shut_one)
