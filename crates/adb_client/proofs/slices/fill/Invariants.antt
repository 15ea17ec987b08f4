use Rattle.adb_client.proofs.Filling.{IsFilling}
use Rattle.adb_client.proofs.slices.fill.Given as goal

abbrev pub invariant-loop-i : goal.invariant-loop-i
invariant-loop-i l = IsFilling l.slices.items l.own l.max l.i l.text l.left
