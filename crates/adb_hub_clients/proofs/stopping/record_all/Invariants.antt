use Rattle.std.proofs.Common.{◌-◌}
use Rattle.adb_hub_clients.proofs.Recorded.{Stopping}
use Rattle.adb_hub_clients.proofs.stopping.record_all.Given as goal

-- the streams up to an id were recorded
abbrev pub invariant-loop-left : goal.invariant-loop-left
invariant-loop-left l = Stopping l.streams l.initial.ends l.id l.left l.ends

abbrev pub decreases-loop-left : goal.decreases-loop-left
decreases-loop-left l = 4294967295 - l.id
