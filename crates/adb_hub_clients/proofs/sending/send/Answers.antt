use Rattle.std.proofs.Common.{ap, refl, ◌∙◌, length}
use Rattle.adb_history.specs.Rows.{State}
use Rattle.adb_history.specs.Flow.{up}
use Rattle.adb_hub_tables.specs.Tables.{state_of}
use Rattle.adb_hub_rules.proofs.Telling.{records_from}
use Rattle.adb_hub_clients.specs.Taking.{takes_in}
use Rattle.adb_hub_clients.proofs.sending.send.Goals as goal

pub take_back-requires-clause-holds : goal.take_back-requires-clause-holds
take_back-requires-clause-holds c = c.in-Err.ensures.held c.args.client (length c.args.piece.now) c.in_ok-take_in.ensures.holds

pub returns-in-Ok-clause-made : goal.returns-in-Ok-clause-made
returns-in-Ok-clause-made c = record {
  state = c.in-Ok.ensures.made.state ∙ ap (λ (s : State). (up c.args.id s).state) c.in_ok-take_in.ensures.made.state;
  fit = c.in-Ok.ensures.made.fit;
}

pub returns-in-Ok-clause-told : goal.returns-in-Ok-clause-told
returns-in-Ok-clause-told c =
    let old = c.args.tables.now in
    records_from {old = old} (up c.args.id) (takes_in c.args.client c.args.piece.now (state_of old)) c.in_ok-take_in.ensures.made.state refl
    c.in-Ok.ensures.told

pub returns-in-Err-clause-kept : goal.returns-in-Err-clause-kept
returns-in-Err-clause-kept c =
    c.take_back.ensures c.args.piece.now (state_of c.args.tables.now) refl
    (c.in-Err.ensures.kept.state ∙ c.in_ok-take_in.ensures.made.state)
