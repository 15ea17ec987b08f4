use Rattle.std.proofs.Common.{drop, refl, ◌∙◌}
use Rattle.adb_server_device_reader.proofs.Readings.{so_far_read, turned_by, faulted}
use Rattle.adb_server_device_reader.proofs.reader.turn.Goals as goal

pub returns-in-Bytes-clause-told : goal.returns-in-Bytes-clause-told
returns-in-Bytes-clause-told g c start r =
    let read = c.in-Bytes.ensures.told r.rest r.left_now in
    let rest = drop c.in-Bytes.n r.rest in
    turned_by c.feed.result _ start c.feed.new.packets rest _ c.feed.new.pass.pass.starved _ _ read.rest
    (c.in-Bytes.ensures.counts.stands refl ∙ r.unfailed)
    (c.feed.ensures.told start rest (so_far_read _ start _ _ r.rest c.in-Bytes.n _ _ read.front r.so_far))

pub returns-in-Failed-clause-told : goal.returns-in-Failed-clause-told
returns-in-Failed-clause-told g c start r = record {
  rest = r.rest;
  left_now = c.in-Failed.ensures.told r.rest r.left_now;
  done =
      c.end_input-in-Failed.ensures.told start r.rest _
      (faulted start r.rest _ _ r.unfailed (c.in-Failed.ensures.counts.fault refl)) r.so_far;
}
