use Rattle.std.proofs.Common.{ap, ◌∙◌, true}
use Rattle.adb_history.specs.Rows.{State}
use Rattle.adb_history.specs.Streams.{opens}
use Rattle.adb_hub_tables.specs.Tables.{state_of}
use Rattle.adb_hub_clients.proofs.entering.come_by.Goals as goal

pub returns-in-Ok-clause-made : goal.returns-in-Ok-clause-made
returns-in-Ok-clause-made c = λ service is.
    let opened = c.in-Ok.ensures.made service is in
    record {
      state = opened.state ∙ ap (λ (s : State). (opens true c.args.client c.args.way.link service s).state)
          c.in_ok-add_client.ensures.made.state;
      fit = opened.fit;
    }

pub returns-in-Err-clause-kept : goal.returns-in-Err-clause-kept
returns-in-Err-clause-kept c =
    c.take_out.ensures (state_of c.args.tables.now) c.requires.fresh c.requires.next
    (c.in-Err.ensures.kept.state ∙ c.in_ok-add_client.ensures.made.state)
