use Rattle.std.proofs.Common.{ℕ, List, [], ◌∷◌, ◌++◌, Some, ◌≡◌, ◌∙◌, ap, subst, sym, refl, Option}
use Rattle.adb_outside.specs.Tables.{at}
use Rattle.adb_forward.specs.declared.row.ForwardRow.{ForwardRow}
use Rattle.adb_hub_clients.specs.Entering.{Leads}
use Rattle.adb_hub_clients.proofs.Entered.{short_open}
use Rattle.adb_hub_clients.proofs.entering.way_of.Goals as goal

pub returns : goal.returns
returns c =
    let tables = c.args.tables.now in
    let row = c.in-Some.row.now in
    let here : at c.args.port tables.forwards ≡ Some row = sym c.find.ensures.row ∙ cc in
    let payload = c.in_ok-open_payload.field-0 in
    let spelled : payload ≡ row.remote ++ 0 ∷ [] = c.in_ok-open_payload.ensures
    ∙ ap (λ (bytes : List ℕ). bytes ++ 0 ∷ []) c.as_slice.ensures in
    subst (λ (found : Option ForwardRow). Leads (Some (record { link = row.transport; payload = payload })) found tables.devices) (sym here)
    (record {
      connected = cc;
      link = refl;
      payload = spelled;
      size = short_open tables.forwards c.find.ensures.table c.args.port row here payload spelled;
    })
