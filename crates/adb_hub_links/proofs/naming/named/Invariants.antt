use Rattle.std.specs.VecDeque.Iter.{deque_iter_rest}
use Rattle.adb_hub_rules.specs.Came.{packets_of}
use Rattle.adb_hub_links.specs.Naming.{AreNamedBefore}
use Rattle.adb_hub_links.proofs.naming.named.Given as goal

abbrev pub invariant-loop-came : goal.invariant-loop-came
invariant-loop-came l = AreNamedBefore l.link (packets_of l.packets.items)
    (packets_of (deque_iter_rest l.came-iterator)) l.streams.streams l.ids.keys
