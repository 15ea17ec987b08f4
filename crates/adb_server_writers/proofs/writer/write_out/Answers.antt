use Rattle.std.proofs.Common.{take, drop, sym, refl}
use Rattle.std.proofs.lemmas.List.{take-append-drop}
use Rattle.adb_server_writers.proofs.writer.write_out.Goals as goal

pub returns-in-All-clause-wrote : goal.returns-in-All-clause-wrote
returns-in-All-clause-wrote g c = record {
  wrote = λ out is. rw c.parts.ensures.is at (c.in-All.ensures.told out is);
  count = c.in-All.ensures.counts.stands refl;
}

pub returns-in-Failed-clause-wrote : goal.returns-in-Failed-clause-wrote
returns-in-Failed-clause-wrote g c = record {
  front = take c.in-Failed.taken c.args.bytes.now;
  lost = drop c.in-Failed.taken c.args.bytes.now;
  is = sym (take-append-drop c.in-Failed.taken c.args.bytes.now);
  wrote = λ out is. rw c.parts.ensures.is at (c.in-Failed.ensures.told out is);
  rises = c.in-Failed.ensures.counts.fault refl;
}
