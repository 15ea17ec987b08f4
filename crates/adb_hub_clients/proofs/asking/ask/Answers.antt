use Rattle.std.proofs.Common.{◌≡◌, ◌∙◌, ℕ, List, Option, Some, subst}
use Rattle.std.specs.Prelude.{IfSome}
use Rattle.std.proofs.lemmas.Result.{on_ok_weaker}
use Rattle.adb_outside.specs.Tables.{at}
use Rattle.adb_client.specs.Client.{SeenClient}
use Rattle.adb_hub_tables.specs.declared.tables.Tables.{Tables}
use Rattle.adb_hub_tables.proofs.Reporting.{records_as}
use Rattle.adb_hub_clients.specs.Planning.{PlansWhole}
use Rattle.adb_hub_clients.specs.declared.plan.Plan.{Plan}
use Rattle.adb_hub_clients.proofs.Planned.{none_held, planned_whole, whole_tells, whole_fits, whole_follows}
use Rattle.adb_hub_clients.proofs.asking.ask.Goals as goal

plans : (t : Tables) (found : Option SeenClient) (piece : List ℕ) (o : Option Plan) (plan : Plan) → o ≡ Some plan
    → IfSome o (λ plan. PlansWhole t found piece plan) → PlansWhole t found piece plan
plans t found piece o plan is planned = subst (λ (o : Option Plan). IfSome o (λ plan. PlansWhole t found piece plan)) is planned

pub make-requires-clause-held : goal.make-requires-clause-held
make-requires-clause-held c = none_held (at c.args.client c.args.tables.now.clients.entries)

pub make-requires-clause-fits : goal.make-requires-clause-fits
make-requires-clause-fits c =
    let t = c.args.tables.now in
    let piece = c.args.piece.now in
    whole_fits c.in-Some.plan c.args.client piece t
    (plans t (at c.args.client t.clients.entries) piece _ c.in-Some.plan c.in-Some.is c.in_ok-plan.ensures) c.requires.sized

pub make-requires-clause-follows : goal.make-requires-clause-follows
make-requires-clause-follows c =
    let t = c.args.tables.now in
    let piece = c.args.piece.now in
    whole_follows c.in-Some.plan c.args.client piece t
    (plans t (at c.args.client t.clients.entries) piece _ c.in-Some.plan c.in-Some.is c.in_ok-plan.ensures) c.requires.ports

pub returns-in-Some-clause-made : goal.returns-in-Some-clause-made
returns-in-Some-clause-made c =
    let t = c.args.tables.now in
    let piece = c.args.piece.now in
    let plan = c.in-Some.plan in
    let planned_here = plans t (at c.args.client t.clients.entries) piece _ plan c.in-Some.is c.in_ok-plan.ensures in
    on_ok_weaker c.make.result (λ leaves row here. record {
      state = leaves.state ∙ planned_whole plan c.args.client piece t planned_here row here;
      fit = leaves.fit;
    }) c.make.ensures.made

pub returns-in-Some-clause-told : goal.returns-in-Some-clause-told
returns-in-Some-clause-told c =
    let t = c.args.tables.now in
    let piece = c.args.piece.now in
    let plan = c.in-Some.plan in
    let planned_here = plans t (at c.args.client t.clients.entries) piece _ plan c.in-Some.is c.in_ok-plan.ensures in
    on_ok_weaker c.make.result
    (λ told row here. records_as (whole_tells plan c.args.client piece t planned_here row here) told)
    c.make.ensures.told
