use Rattle.adb_top.proofs.tools.say_refusal.Goals as goal

pub returns-in-Ok : goal.returns-in-Ok
returns-in-Ok g c = record {
  own = c.say_refused.ensures.status;
  notes = rw (c.as_slice.ensures, c.in-Ok.ensures) at c.say_refused.ensures.told;
  shows = rw (c.as_slice.ensures, c.in-Ok.ensures) at c.say_refused.ensures.shows;
  counts = c.say_refused.ensures.counts;
}
