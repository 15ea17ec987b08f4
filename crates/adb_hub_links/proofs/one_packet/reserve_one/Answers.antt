use Rattle.std.proofs.Common.{ℕ, [], ◌∷◌, Option, sym, ◌∙◌, ap, subst, arith}
use Rattle.std.specs.Prelude.{option_to_list}
use Rattle.adb_outside.specs.Tables.{at}
use Rattle.adb_hub_rules.specs.Came.{packet_of}
use Rattle.adb_hub_tables.specs.Places.{LinkRoom}
use Rattle.adb_laws_resting.specs.Named.{granted_by}
use Rattle.adb_hub_links.specs.Counting.{fed_slices}
use Rattle.adb_hub_links.specs.Naming.{AreNamedOn}
use Rattle.adb_hub_links.proofs.OnePacket.{named_one, slices_fed}
use Rattle.adb_hub_links.proofs.Reserved.{is_reserved}
use Rattle.adb_hub_links.proofs.one_packet.reserve_one.Goals as goal

pub returns-clause-reserved : goal.returns-clause-reserved
returns-clause-reserved c =
    let p = packet_of c.args.came.now in
    let streams = c.args.tables.now.streams.streams in
    is_reserved (record {
      named = subst (λ (id : Option ℕ). AreNamedOn c.args.link (p ∷ []) streams (option_to_list id)) (sym c.named_on-id.ensures)
          (named_one c.args.link p streams);
      credit = granted_by p.command p;
      given = λ l. omega arith;
      slices = fed_slices c.fed_client-client.result;
      counted = λ k. ap (λ (fed : Option ℕ). fed_slices fed k) c.fed_client-client.ensures ∙ slices_fed p streams k;
      served = c.in_ok-reserve_fed.ensures.room;
      more = c.prepare_named.ensures.widens;
      maxdata = c.maxdata_of-maxdata.result;
      size = c.maxdata_of-maxdata.ensures;
      cut = c.in_ok-writes.ensures.cut;
      writes = c.in_ok-writes.writes;
      written = c.in_ok-writes.ensures.writes;
      room = subst (λ (n : ℕ). LinkRoom n (at c.args.link c.reserve_packets.new.links.entries)) c.in_ok-places.ensures
          c.in_ok-reserve_packets.ensures.room;
    })
