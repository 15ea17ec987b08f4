use Rattle.std.proofs.Common.{◌≡◌, ◌≤◌, length, drop}
use Rattle.adb_sync.specs.Chunk.{HasFront, IsWithin, left_from}
use Rattle.adb_remote.proofs.pushing.pass.Given as goal

abbrev pub invariant-loop-left : goal.invariant-loop-left
invariant-loop-left l = record {
  within : IsWithin l.chunk l.bytes;
  front : HasFront l.chunk l.bytes;
  here : l.left ≤ length (left_from l.chunk l.bytes);
  left : drop l.left (left_from l.chunk l.bytes) ≡ drop l.n (left_from l.fn.chunk l.fn.bytes);
}

abbrev pub decreases-loop-left : goal.decreases-loop-left
decreases-loop-left l = l.left
