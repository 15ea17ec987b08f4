use Rattle.adb_link.proofs.Filling.{IsFilling}
use Rattle.adb_link.proofs.outbox.fill.Given as goal

abbrev pub invariant-loop-i : goal.invariant-loop-i
invariant-loop-i l = IsFilling l.packets.items l.max l.i l.text
