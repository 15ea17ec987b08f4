use Rattle.std.proofs.Common.{sym, subst, arith}
use Rattle.std.specs.List.Sorted.{IsStrictlySortedBy}
use Rattle.adb_outside.specs.Tables.{IsRising}
use Rattle.adb_stream.proofs.Calls.{cleared_indexed}
use Rattle.adb_stream.proofs.streams.Streams.new.Goals as goal

pub invariant_of-result : goal.invariant_of-result
unfolding IsStrictlySortedBy
invariant_of-result c = cleared_indexed 0 c.new.result (omega arith) (record {
  keys = c.new.ensures.keys;
  slots = c.new.ensures.slots;
  index = c.new.ensures.index;
  rises = subst IsRising (sym c.new.ensures.keys) tt;
})
