use Rattle.std.proofs.Common.{ℕ, ◌+◌, ◌≡◌, length, ◌∙◌, ap, subst}
use Rattle.adb_outside.specs.Tables.{at}
use Rattle.adb_hub_tables.specs.Places.{LinkRoom}
use Rattle.adb_hub_links.specs.Counting.{count_at, credit_in}
use Rattle.adb_hub_links.proofs.Reserved.{is_reserved}
use Rattle.adb_hub_links.proofs.reserving.reserve.Goals as goal

pub returns-clause-reserved : goal.returns-clause-reserved
returns-clause-reserved c =
    let places : c.in_ok-places.places ≡ c.in_ok-writes.writes + length c.args.packets.now.items =
    c.in_ok-places.ensures ∙ ap (λ (n : ℕ). c.in_ok-writes.writes + n) (c.len.ensures ∙ c.args.packets.now.ok.0) in
    is_reserved (record {
      named = c.in_ok-ids.ensures;
      credit = credit_in c.in_ok-given.given.entries;
      given = c.in_ok-given.ensures;
      slices = λ (k : ℕ). count_at (at k c.in_ok-counts.counts.entries);
      counted = c.in_ok-counts.ensures;
      served = c.in_ok-reserve_each.ensures.room;
      more = c.prepare_each.ensures.widens;
      maxdata = c.maxdata_of-maxdata.result;
      size = c.maxdata_of-maxdata.ensures;
      cut = c.in_ok-writes.ensures.cut;
      writes = c.in_ok-writes.writes;
      written = c.in_ok-writes.ensures.writes;
      room = subst (λ (n : ℕ). LinkRoom n (at c.args.link c.reserve_packets.new.links.entries)) places c.in_ok-reserve_packets.ensures.room;
    })
