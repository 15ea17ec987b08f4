use Rattle.std.proofs.Common.{ap, refl, ◌∙◌}
use Rattle.adb_history.specs.Rows.{State}
use Rattle.adb_history.specs.Flow.{up}
use Rattle.adb_hub_tables.specs.Tables.{state_of}
use Rattle.adb_hub_rules.proofs.Telling.{records_from}
use Rattle.adb_hub_clients.proofs.sending.advance.Goals as goal

pub returns-clause-made : goal.returns-clause-made
returns-clause-made c = record {
  state = c.go_up.ensures.made.state ∙ ap (λ (s : State). (up c.args.id s).state) c.in_ok-make_up_ready.ensures.made.state;
  fit = c.go_up.ensures.made.fit;
}

pub returns-clause-told : goal.returns-clause-told
returns-clause-told c =
    records_from {old = c.args.tables.now} (up c.args.id) (state_of c.args.tables.now)
    c.in_ok-make_up_ready.ensures.made.state refl c.go_up.ensures.told
