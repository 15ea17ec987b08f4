-- What a record says beside its number and the bytes of its text.
use Rattle.std.specs.Prelude.{ℕ, List, drop}
use Rattle.adb_capture.specs.declared.entry.Entry.{Entry}
use Rattle.adb_capture.specs.declared.entry.Entry.TheVariants.{Join, Enter, Read, End, Bound, Attach, Recv, Detach, Put, Send}
use Rattle.adb_capture_reader.specs.declared.form.Form.{Form}
use Rattle.adb_capture_reader.specs.declared.form.Form.TheVariants as form

-- the entry of a form, with its number and its data
abbrev pub entry_by : Form → ℕ → List ℕ → Entry
entry_by form.Join n bytes = Join n
entry_by (form.Enter port) n bytes = Enter n port
entry_by form.Read n bytes = Read n bytes
entry_by (form.End cause) n bytes = End n cause
entry_by (form.Bound port) n bytes = Bound n port
entry_by (form.Attach kind) n bytes = Attach n kind (drop 1 bytes)
entry_by form.Recv n bytes = Recv n bytes
entry_by (form.Detach cause) n bytes = Detach n cause
entry_by form.Put n bytes = Put n bytes
entry_by form.Send n bytes = Send n bytes
