use Rattle.std.proofs.Common.{◌≡◌, take}
use Rattle.adb_sync_client.proofs.entries.Entries.copy_of.Given as goal

abbrev pub invariant-loop-entry : goal.invariant-loop-entry
invariant-loop-entry l = l.copies.items ≡ take l.entry-index l.entries
