use Rattle.std.proofs.Common.{sym, arith}
use Rattle.std.proofs.lemmas.List.{length-take, length-take-le, take_all}
use Rattle.adb_reply.proofs.refusals.printed.Goals as goal

pub slice_bounds-result-end : goal.slice_bounds-result-end
slice_bounds-result-end c = sym (length-take-le 64 c.args.serial.now (omega arith))

pub returns-else-serial-gt-MAX_PRINTED_SERIAL-clause-text : goal.returns-else-serial-gt-MAX_PRINTED_SERIAL-clause-text
returns-else-serial-gt-MAX_PRINTED_SERIAL-clause-text c = sym (take_all 64 c.args.serial.now (omega arith))

pub returns-then-serial-gt-MAX_PRINTED_SERIAL-clause-short : goal.returns-then-serial-gt-MAX_PRINTED_SERIAL-clause-short
returns-then-serial-gt-MAX_PRINTED_SERIAL-clause-short c = omega (arith, length-take 64 c.args.serial.now)
