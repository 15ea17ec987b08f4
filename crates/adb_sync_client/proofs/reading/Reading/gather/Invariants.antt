use Rattle.std.proofs.Common.{◌≡◌, length}
use Rattle.adb_sync_client.specs.Reading.{MeansSame}
use Rattle.adb_sync_client.proofs.reading.Reading.gather.Given as goal

abbrev pub invariant-loop-self : goal.invariant-loop-self
invariant-loop-self l = record {
  same : MeansSame l.fn.self
      (record {
        cut = l.self-inside.framer;
        said = l.self-inside.told;
        next = l.self-inside.next;
        spent =
            l.self-inside.spent;
      });
  fault : l.self-inside.framer.fault ≡ l.fn.self.cut.fault;
  spent : l.self-inside.spent ≡ l.fn.self.spent;
}

abbrev pub decreases-loop-self : goal.decreases-loop-self
decreases-loop-self l = length l.self-inside.framer.given
