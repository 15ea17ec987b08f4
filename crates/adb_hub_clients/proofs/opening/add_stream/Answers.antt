use Rattle.std.proofs.Common.{◌∙◌, ap, Bool}
use Rattle.adb_stream.specs.Flow.{new_flow}
use Rattle.adb_stream.specs.Stream.{new_stream}
use Rattle.adb_stream.specs.Streams.{StreamTable}
use Rattle.adb_history.specs.Streams.{draw}
use Rattle.adb_hub_tables.specs.declared.tables.Tables.{Tables}
use Rattle.adb_hub_tables.specs.Tables.{state_of}
use Rattle.adb_hub_clients.proofs.Opened.{drawn_fit, drawn_state}
use Rattle.adb_hub_clients.proofs.opening.add_stream.Goals as goal

pub returns-clause-made : goal.returns-clause-made
returns-clause-made c =
    let old = c.args.tables.now in
    let counted = c.count_stream.ensures in
    let id = c.in_ok-id.id in
    let asker = c.args.asker.now in
    let row = new_stream id asker.client asker.link (new_flow c.is_credit-credit.result) in
    record {
      state = counted.state
          ∙ (ap (λ (table : StreamTable). state_of (record old { streams = table })) c.in_ok-id.ensures.after
          ∙ (drawn_state old id asker.client asker.link c.is_credit-credit.result c.in_ok-id.ensures.id
          ∙ ap (λ (credit : Bool). draw credit asker.client asker.link (state_of old)) c.is_credit-credit.ensures));
      fit = drawn_fit {stream = row} {old = old} (record {
        clients = ap (λ (t : Tables). t.clients) counted.tables;
        trackers = ap (λ (t : Tables). t.trackers) counted.tables;
        streams = ap (λ (t : Tables). t.streams.streams) counted.tables ∙ ap (λ (t : StreamTable). t.streams) c.in_ok-id.ensures.after;
        here = counted.here;
        others = counted.others;
      }) c.requires.fit c.requires.room;
    }
