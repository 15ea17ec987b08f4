use Rattle.std.proofs.Common.{subst}
use Rattle.adb_device_streams.specs.Stream.{MakesWrite}
use Rattle.adb_device_streams.proofs.Growing.{grows_on}
use Rattle.adb_device_streams.proofs.Windows.{writing_step, writing_done}
use Rattle.adb_device_streams.proofs.writes.push_writes.Goals as goal

pub loop-payload-preserved : goal.loop-payload-preserved
loop-payload-preserved c = record {
  writes = λ row stands.
      let all = c.loop-payload.invariant.writes row stands in
      writing_step c.args.outgoing row c.in-Some.payload all
      (subst (MakesWrite c.args.outgoing.most all.row c.next_write.new.self) c.in-Some.is
      (c.in_ok-payload.ensures.write all.row all.stands))
      c.in_ok-push_write.ensures.ok;
  grows = grows_on _ _ _ c.loop-payload.invariant.grows c.push_write.ensures.grows;
}

pub returns-clause-writes : goal.returns-clause-writes
returns-clause-writes c = λ row stands.
    let all = c.loop-payload.invariant.writes row stands in
    writing_done c.args.outgoing row c.next_write.new.self all
    (subst (MakesWrite c.args.outgoing.most all.row c.next_write.new.self) c.in_default.is
    (c.in_ok-payload.ensures.write all.row all.stands))
