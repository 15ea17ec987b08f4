-- The entry that lends its bytes.
use Rattle.std.specs.Prelude.{◌++◌}
use Rattle.adb_capture.specs.declared.entry.Entry.{Entry}
use Rattle.adb_capture.specs.declared.entry.Entry.TheVariants as entries
use Rattle.adb_capture.specs.declared.lent.Lent.{Lent}
use Rattle.adb_capture.specs.declared.lent.Lent.TheVariants as lent

abbrev pub entry_lent : Lent → Entry
entry_lent (lent.Join client) = entries.Join client
entry_lent (lent.Enter client port) = entries.Enter client port
entry_lent (lent.Read client bytes) = entries.Read client bytes.now
entry_lent (lent.End client cause) = entries.End client cause
entry_lent (lent.Bound client port) = entries.Bound client port
entry_lent (lent.Attach link kind serial) = entries.Attach link kind serial.now
entry_lent (lent.Recv link bytes) = entries.Recv link bytes.now
entry_lent (lent.Detach link cause) = entries.Detach link cause
entry_lent (lent.Put client bytes) = entries.Put client (bytes.start.now ++ bytes.rest.now)
entry_lent (lent.Send link bytes) = entries.Send link (bytes.start.now ++ bytes.rest.now)
