use Rattle.std.proofs.Common.{◌≡◌, ◌∙◌, Option, Some, subst}
use Rattle.std.proofs.lemmas.Result.{on_ok_weaker}
use Rattle.adb_outside.specs.Tables.{at}
use Rattle.adb_client.specs.Client.{SeenClient}
use Rattle.adb_hub_tables.specs.declared.tables.Tables.{Tables}
use Rattle.adb_hub_tables.proofs.Reporting.{records_as}
use Rattle.adb_hub_clients.specs.Planning.{PlansAt}
use Rattle.adb_hub_clients.specs.declared.plan.Plan.{Plan}
use Rattle.adb_hub_clients.proofs.Planned.{planned, planned_tells, plan_fits, plan_follows, plan_within}
use Rattle.adb_hub_clients.proofs.asking.answer.Goals as goal

plans : (t : Tables) (found : Option SeenClient) (o : Option Plan) (plan : Plan) → o ≡ Some plan → PlansAt t found o
    → PlansAt t found (Some plan)
plans t found o plan is planned = subst (PlansAt t found) is planned

pub make-requires-clause-held : goal.make-requires-clause-held
make-requires-clause-held c =
    let found = at c.args.client c.args.tables.now.clients.entries in
    plan_within c.in-Some.plan c.args.tables.now found (plans c.args.tables.now found _ c.in-Some.plan c.in-Some.is c.in_ok-plan.ensures)

pub make-requires-clause-fits : goal.make-requires-clause-fits
make-requires-clause-fits c =
    let t = c.args.tables.now in
    plan_fits c.in-Some.plan c.args.client t
    (plans t (at c.args.client t.clients.entries) _ c.in-Some.plan c.in-Some.is c.in_ok-plan.ensures)
    c.requires.sized

pub make-requires-clause-follows : goal.make-requires-clause-follows
make-requires-clause-follows c =
    let t = c.args.tables.now in
    plan_follows c.in-Some.plan c.args.client t
    (plans t (at c.args.client t.clients.entries) _ c.in-Some.plan c.in-Some.is c.in_ok-plan.ensures)
    c.requires.ports

pub returns-in-Some-clause-made : goal.returns-in-Some-clause-made
returns-in-Some-clause-made c =
    let t = c.args.tables.now in
    let plan = c.in-Some.plan in
    let planned_here = plans t (at c.args.client t.clients.entries) _ plan c.in-Some.is c.in_ok-plan.ensures in
    on_ok_weaker c.make.result (λ leaves row here. record {
      state = leaves.state ∙ planned plan c.args.client row t planned_here here;
      fit = leaves.fit;
    }) c.make.ensures.made

pub returns-in-Some-clause-told : goal.returns-in-Some-clause-told
returns-in-Some-clause-told c =
    let t = c.args.tables.now in
    let plan = c.in-Some.plan in
    let planned_here = plans t (at c.args.client t.clients.entries) _ plan c.in-Some.is c.in_ok-plan.ensures in
    on_ok_weaker c.make.result
    (λ told row here. records_as (planned_tells plan c.args.client row t planned_here here) told)
    c.make.ensures.told
