use Rattle.adb_client.proofs.Pieces.{IsCopied}
use Rattle.adb_client.proofs.tail.copy_first.Given as goal

abbrev pub invariant-loop-i : goal.invariant-loop-i
invariant-loop-i l = IsCopied l.pieces.items l.fn.to.items l.n l.i l.to.items l.left
