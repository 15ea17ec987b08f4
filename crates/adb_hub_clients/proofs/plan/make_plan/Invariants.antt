use Rattle.std.proofs.Common.{◌-◌, length}
use Rattle.adb_hub_clients.proofs.Left.{IsLeft}
use Rattle.adb_hub_clients.proofs.plan.make_plan.Given as goal

-- what is left to be read
abbrev pub invariant-loop-reading : goal.invariant-loop-reading
invariant-loop-reading l = IsLeft l.devices l.forwards l.client.held l.client.about.selected l.reading

-- how many bytes are left
abbrev pub decreases-loop-reading : goal.decreases-loop-reading
decreases-loop-reading l = length l.client.held - l.reading.used
