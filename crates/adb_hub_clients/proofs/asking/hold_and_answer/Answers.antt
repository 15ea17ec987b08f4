use Rattle.std.proofs.Common.{ap, subst, ◌∙◌, ◌++◌, refl, length}
use Rattle.adb_history.specs.Rows.{State}
use Rattle.adb_history.specs.Events.{Made}
use Rattle.adb_history.specs.Asking.{asks_with}
use Rattle.adb_history.specs.Reading.{asked_before}
use Rattle.adb_hub_tables.specs.Tables.{state_of}
use Rattle.adb_hub_clients.specs.Planning.{answered, answers}
use Rattle.adb_hub_clients.specs.Taking.{takes_in}
use Rattle.adb_hub_tables.specs.Endings.{Records}
use Rattle.adb_hub_rules.proofs.Telling.{records_from}
use Rattle.adb_hub_clients.proofs.Planned.{asks_anew, holding_row, holds_same}
use Rattle.adb_hub_clients.proofs.asking.hold_and_answer.Goals as goal

pub take_back-requires-clause-holds : goal.take_back-requires-clause-holds
take_back-requires-clause-holds c =
    holds_same (length c.args.piece.now) c.args.client c.take_in.new.tables c.answer.new.tables
    c.in-Err.ensures.kept.state c.in_ok-take_in.ensures.holds

pub returns-in-Ok-clause-made : goal.returns-in-Ok-clause-made
returns-in-Ok-clause-made c = λ row here.
    let old = c.args.tables.now in
    let s = state_of old in
    let client = c.args.client in
    let piece = c.args.piece.now in
    let more = record row { held = row.held ++ piece } in
    let taken = c.in_ok-take_in.ensures.made.state in
    let leaves = c.in-Ok.ensures.made more (ap (λ (s : State). s.clients client) taken ∙ holding_row client piece s row here) in
    record {
      state = leaves.state
          ∙ (ap (answered client more) taken ∙ ap (λ (m : Made). m.state)
          (asks_anew (asks_with old.devices old.forwards piece (asked_before row)) client piece s));
      fit = leaves.fit;
    }

pub returns-in-Ok-clause-told : goal.returns-in-Ok-clause-told
returns-in-Ok-clause-told c = λ row here.
    let old = c.args.tables.now in
    let s = state_of old in
    let client = c.args.client in
    let piece = c.args.piece.now in
    let more = record row { held = row.held ++ piece } in
    let taken = c.in_ok-take_in.ensures.made.state in
    let told = c.in-Ok.ensures.told more (ap (λ (s : State). s.clients client) taken ∙ holding_row client piece s row here) in
    subst (λ (m : Made). Records m.told c.args.ends.now old c.answer.new.ends)
    (asks_anew (asks_with old.devices old.forwards piece (asked_before row)) client piece s)
    (records_from {old = old} (answers client more) (takes_in client piece s) taken refl told)

pub returns-in-Err-clause-kept : goal.returns-in-Err-clause-kept
returns-in-Err-clause-kept c =
    c.take_back.ensures c.args.piece.now (state_of c.args.tables.now) refl
    (c.in-Err.ensures.kept.state ∙ c.in_ok-take_in.ensures.made.state)
