use Rattle.std.proofs.Common.{ℕ, ap, sym, subst, ◌∙◌}
use Rattle.std.proofs.lemmas.Result.{on_ok_weaker}
use Rattle.adb_outside.specs.Tables.{at}
use Rattle.adb_history.specs.Links.{maxdata_of}
use Rattle.adb_hub_tables.specs.declared.tables.Tables.{Tables}
use Rattle.adb_hub_clients.specs.Leaving.{HoldsAtLeast}
use Rattle.adb_hub_clients.specs.Sending.{IsPreparedAt}
use Rattle.adb_hub_clients.proofs.Raised.{ready_up}
use Rattle.adb_hub_clients.proofs.sending.make_stream_ready.Goals as goal

pub returns-clause-held : goal.returns-clause-held
returns-clause-held c = λ k n holds.
    let same = ap (λ (t : Tables). t.clients) c.make_packets.ensures.others in
    subst (λ (table : _). HoldsAtLeast n (at k table.entries)) (sym same) (c.in_ok-writes.ensures.held k n holds)

pub returns-clause-ready : goal.returns-clause-ready
returns-clause-ready c =
    let new = c.make_packets.new.tables in
    let middle = c.prepare.new.tables in
    let stream = c.args.stream.now in
    let writes = c.in_ok-writes.writes in
    let streams = ap (λ (t : Tables). at c.args.id t.streams.streams) c.make_packets.ensures.others
    ∙ (ap (λ (t : Tables). at c.args.id t.streams.streams) c.in_ok-writes.ensures.others ∙ c.requires.here) in
    let devices = ap (λ (t : Tables). t.devices) c.make_packets.ensures.others
    ∙ ap (λ (t : Tables). t.devices) c.in_ok-writes.ensures.others in
    let clients = ap (λ (t : Tables). t.clients) c.make_packets.ensures.others in
    let prepared = subst (λ (m : ℕ). IsPreparedAt writes stream.part.flow m (at stream.client middle.clients.entries))
    (c.maxdata_of-maxdata.ensures ∙ ap (maxdata_of stream.link) (sym devices)) c.in_ok-writes.ensures.ready in
    on_ok_weaker c.make_packets.result
    (ready_up c.args.id writes new stream streams
    (subst (λ (table : _). IsPreparedAt writes stream.part.flow (maxdata_of stream.link new.devices)
    (at stream.client table.entries)) (sym clients) prepared))
    c.make_packets.ensures.room
