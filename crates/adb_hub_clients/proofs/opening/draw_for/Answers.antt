use Rattle.std.proofs.Common.{◌∙◌, ap, refl, Some}
use Rattle.adb_hub_tables.specs.declared.tables.Tables.{Tables}
use Rattle.adb_hub_tables.specs.Tables.{state_of}
use Rattle.adb_hub_clients.specs.Opening.{drawn_for}
use Rattle.adb_hub_clients.proofs.Opened.{next_id, still_ready}
use Rattle.adb_hub_clients.proofs.opening.draw_for.Goals as goal

pub returns-in-Ok-clause-next : goal.returns-in-Ok-clause-next
returns-in-Ok-clause-next c =
    next_id c.in-Ok.id (state_of c.args.tables.now) (state_of c.make_slices.new.tables)
    (c.make_slices.ensures.made.state ∙ c.make_packets.ensures.made.state)
    c.in-Ok.ensures.left c.in-Ok.ensures.drawn

pub returns-in-Ok-clause-made : goal.returns-in-Ok-clause-made
returns-in-Ok-clause-made c = record {
  state = c.in-Ok.ensures.made.state
      ∙ ap (drawn_for (Some c.in-Ok.id) c.args.asker.now) (c.make_slices.ensures.made.state ∙ c.make_packets.ensures.made.state);
  fit = c.in-Ok.ensures.made.fit;
}

pub returns-in_err-make_slices-clause-ready : goal.returns-in_err-make_slices-clause-ready
returns-in_err-make_slices-clause-ready c = λ heard.
    still_ready c.args.asker.now.client heard c.args.tables.now c.make_packets.new.tables c.make_slices.new.tables c.make_slices.new.tables
    (ap (λ (t : Tables). t.clients) c.make_packets.ensures.others, refl) (c.make_slices.ensures.ready heard)

pub returns-in-Ok-clause-ready : goal.returns-in-Ok-clause-ready
returns-in-Ok-clause-ready c = λ heard.
    still_ready c.args.asker.now.client heard c.args.tables.now c.make_packets.new.tables c.make_slices.new.tables c.add_stream.new.tables
    (ap (λ (t : Tables). t.clients) c.make_packets.ensures.others, c.add_stream.ensures.clients) (c.make_slices.ensures.ready heard)

pub returns-in-Err-NoIds-clause-ready : goal.returns-in-Err-NoIds-clause-ready
returns-in-Err-NoIds-clause-ready c = λ heard.
    still_ready c.args.asker.now.client heard c.args.tables.now c.make_packets.new.tables c.make_slices.new.tables c.add_stream.new.tables
    (ap (λ (t : Tables). t.clients) c.make_packets.ensures.others, c.add_stream.ensures.clients) (c.make_slices.ensures.ready heard)

pub returns-in-Err-OutOfMemory-clause-ready : goal.returns-in-Err-OutOfMemory-clause-ready
returns-in-Err-OutOfMemory-clause-ready c = λ heard.
    still_ready c.args.asker.now.client heard c.args.tables.now c.make_packets.new.tables c.make_slices.new.tables c.add_stream.new.tables
    (ap (λ (t : Tables). t.clients) c.make_packets.ensures.others, c.add_stream.ensures.clients) (c.make_slices.ensures.ready heard)
