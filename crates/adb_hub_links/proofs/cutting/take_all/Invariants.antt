use Rattle.std.proofs.Common.{length}
use Rattle.adb_hub_links.specs.Cutting.{HasTaken}
use Rattle.adb_hub_links.proofs.cutting.take_all.Given as goal

abbrev pub invariant-loop-packets : goal.invariant-loop-packets
invariant-loop-packets l = HasTaken l.fn.incoming l.packets.items l.incoming

abbrev pub decreases-loop-packets : goal.decreases-loop-packets
decreases-loop-packets l = length l.incoming.given
